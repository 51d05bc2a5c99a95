-- Laws of a house.
use Rattle.std.specs.Prelude.{◌≡◌, ◌↔◌, ℕ, Bool, true, List, length, None, Contains}
use Rattle.gpu_plan.specs.Plans.{PlansData}
use Rattle.sync_core.specs.declared.wait.Wait.{Wait}
use Rattle.sync_core.specs.Standing.{IsKnown}
use Rattle.sync_core.specs.Laws.{IsPath}
use Rattle.gpu_journal.specs.declared.event.Event.{Event}
use Rattle.gpu_journal.specs.Waits.{sync_of, pending_in}
use Rattle.gpu_journal.specs.Legal.{IsLegal}
use Rattle.gpu_journal.specs.Serial.{is_runnable}
use Rattle.serial_laws.specs.Going.{IsIdle}
use Rattle.serial_laws.specs.Choosing.{choice_at_home}
use Rattle.gpu_house.specs.Waiting.{HaveTargets, FormNoCycle}
use Rattle.gpu_house.specs.Stuck.{IsLeastOf}

-- with all streams at home none can be taken exactly where no stream has an unprocessed number
abbrev pub NoneIsTaken : Type 0
NoneIsTaken = (p : PlansData) (h : List Event) (at_home : ℕ → Bool) → IsLegal p h → ((t : ℕ) → IsKnown (length p.plans) t → at_home t ≡ true)
    → (choice_at_home p h at_home ≡ None) ↔ IsIdle p h

-- where each pending wait has its target, the stream with the least unprocessed number can run
abbrev pub LeastRuns : Type 0
LeastRuns = (p : PlansData) (h : List Event) (s n : ℕ) → HaveTargets p h → IsLeastOf p h s n → is_runnable p h s ≡ true

-- where waits form no cycle, no path from a pending wait leads back to it
abbrev pub NoWayBack : Type 0
NoWayBack = (p : PlansData) (h : List Event) (wait : Wait) (path : List Wait) → FormNoCycle p h → Contains (pending_in p h) wait → IsPath (length p.plans) (sync_of p h) wait path
    → Contains path wait → ⊥
