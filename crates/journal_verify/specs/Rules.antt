-- The rule that an event breaks first.
use Rattle.std.specs.Prelude.{ℕ, zero, suc, List, [], ◌∷◌}
use Rattle.gpu_plan.specs.Plans.{PlansData}
use Rattle.gpu_journal.specs.declared.event.Event.{Event}
use Rattle.gpu_journal.specs.Legal.{OrdersOpenStream, DrawsNextNumber, OrdersNextFlush, RunsFirstNumber, RunsUnblocked, RunsReachedFlush, FetchesItsPlaces, FetchesWhatWasPut, JudgesTheCopy, FinishesAtPut, LosesOpenStream, ClosesAtClose}

-- the first of some rules that does not hold has this number among them, counted from 1
abbrev pub IsFirstFailing : List (Type 0) → ℕ → Type 0
IsFirstFailing [] number = ⊥
IsFirstFailing (rule ∷ rules) zero = ⊥
IsFirstFailing (rule ∷ rules) (suc zero) = rule → ⊥
IsFirstFailing (rule ∷ rules) (suc (suc number)) = rule × IsFirstFailing rules (suc number)

-- the twelve rules of a legal history for an event at the history before it
abbrev pub rules_of : PlansData → List Event → Event → List (Type 0)
rules_of p g e =
    OrdersOpenStream p g e ∷ DrawsNextNumber p g e ∷ OrdersNextFlush p g e
    ∷ RunsFirstNumber p g e ∷ RunsUnblocked p g e ∷ RunsReachedFlush p g e
    ∷ FetchesItsPlaces p g e ∷ FetchesWhatWasPut p g e ∷ JudgesTheCopy p g e
    ∷ FinishesAtPut p g e ∷ LosesOpenStream p g e ∷ ClosesAtClose p g e ∷ []

-- the event breaks the rule of this number at the history before it, and obeys each rule with a lower number
abbrev pub BreaksFirst : PlansData → List Event → Event → ℕ → Type 0
BreaksFirst p g e number = IsFirstFailing (rules_of p g e) number
