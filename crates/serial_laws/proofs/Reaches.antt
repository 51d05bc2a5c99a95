-- How far the client of an event's own stream can be after it.
use Rattle.std.proofs.Common.{◌≡◌, ℕ, ◌+◌, List, [], ◌∷◌, ap, ◌∙◌}
use Rattle.gpu_plan.specs.Plans.{PlansData, plan_of}
use Rattle.gpu_plan.specs.Passes.{bound, greatest}
use Rattle.gpu_journal.specs.declared.event.Event.{Event}
use Rattle.gpu_journal.specs.declared.event.Event.TheVariants.{Order, Step, Finish, Lost, Close}
use Rattle.gpu_journal.specs.declared.event.Why.{Why}
use Rattle.gpu_journal.specs.World.{Known, world, asked_by, greatest_after, known}
use Rattle.gpu_journal.specs.Facts.{reach}
use Rattle.serial_laws.proofs.Tokens.{reach_is}
use Rattle.serial_laws.proofs.Knowns.{known_order, known_finish, known_lost, known_close, step_finished, step_greatest}

abbrev bound_by : PlansData → ℕ → Known → ℕ
bound_by p s k = bound (plan_of p s).actions k.finished k.tokens

-- an order, a loss and a close bring it no further
pub reach_order : (p : PlansData) (h : List Event) (s n c : ℕ) → reach p (Order s n c ∷ h) s ≡ reach p h s
reach_order p h s n c = ap (bound_by p s) (known_order p h s n c)

pub reach_lost : (p : PlansData) (h : List Event) (s : ℕ) (why : Why) (words : List (ℕ × ℕ)) → reach p (Lost s why words ∷ h) s ≡ reach p h s
reach_lost p h s why words = ap (bound_by p s) (known_lost p h s why words)

pub reach_close : (p : PlansData) (h : List Event) (s : ℕ) → reach p (Close s ∷ h) s ≡ reach p h s
reach_close p h s = ap (bound_by p s) (known_close p h s)

-- after a step it is the bound at the greatest token with the step's own
pub reach_step : (p : PlansData) (h : List Event) (s : ℕ) (words : List (ℕ × ℕ)) → reach p (Step s words ∷ h) s ≡ bound (plan_of p s).actions (known p h s).finished (greatest_after (asked_by p s words (world p h)) (greatest (known p h s).tokens) ∷ [])
reach_step p h s words =
    reach_is p (Step s words ∷ h) s
    ∙ ap (λ (f : ℕ). bound (plan_of p s).actions f (greatest (known p (Step s words ∷ h) s).tokens ∷ [])) (step_finished p h s words)
    ∙ ap (λ (g : ℕ). bound (plan_of p s).actions (known p h s).finished (g ∷ [])) (step_greatest p h s words)

-- after a finish it is the bound at one flush more
pub reach_finish : (p : PlansData) (h : List Event) (s n : ℕ) → reach p (Finish s n ∷ h) s ≡ bound (plan_of p s).actions ((known p h s).finished + 1) (greatest (known p h s).tokens ∷ [])
reach_finish p h s n =
    reach_is p (Finish s n ∷ h) s
    ∙ ap (λ (k : Known). bound (plan_of p s).actions k.finished (greatest k.tokens ∷ [])) (known_finish p h s n)
