-- Laws of a house on which no proof rests, each applied once: if one of them said less, its case here could not be shown.
use Rattle.std.proofs.Common.{◌≡◌, ℕ, true, List, [], ◌∷◌, length, Some, None, refl, arith}
use Rattle.gpu_plan.specs.Plans.{PlansData}
use Rattle.sync_core.specs.declared.wait.Wait.{Wait}
use Rattle.sync_core.specs.Laws.{IsPendingOfNamed}
use Rattle.gpu_journal.specs.declared.event.Event.{Event}
use Rattle.gpu_journal.specs.Waits.{sync_of}
use Rattle.gpu_journal.specs.Legal.{IsLegal}
use Rattle.serial_laws.specs.Going.{IsIdle}
use Rattle.serial_laws.specs.Choosing.{choice_at_home}
use Rattle.gpu_house.specs.Waiting.{FormNoCycle}
use Rattle.gpu_house.specs.Laws.{NoneIsTaken, NoWayBack}

-- where a stream can be taken, some number is left
some_left : NoneIsTaken → (p : PlansData) (h : List Event) (s : ℕ) → IsLegal p h → choice_at_home p h (λ t. true) ≡ Some s → IsIdle p h → ⊥
some_left law p h s legal chosen idle = let none : choice_at_home p h (λ t. true) ≡ None = (law p h (λ t. true) legal (λ t known. refl)).1 idle in absurd cc

-- no wait follows itself, and no two follow each other
no_loop : NoWayBack → (p : PlansData) (h : List Event) (w : Wait) → FormNoCycle p h → IsPendingOfNamed (length p.plans) (sync_of p h) w w → ⊥
no_loop law p h w none follows = law p h w (w ∷ []) none follows.0 (follows, tt) (0, omega arith, refl)

no_two : NoWayBack → (p : PlansData) (h : List Event) (w v : Wait) → FormNoCycle p h → IsPendingOfNamed (length p.plans) (sync_of p h) w v → IsPendingOfNamed (length p.plans) (sync_of p h) v w → ⊥
no_two law p h w v none follows back = law p h w (v ∷ w ∷ []) none back.0 (follows, (back, tt)) (1, omega arith, refl)
