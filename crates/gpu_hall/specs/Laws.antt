-- Laws of a hall.
use Rattle.std.specs.Prelude.{ℕ, ◌+◌, ◌≤◌, Bool, List, length}
use Rattle.gpu_plan.specs.Plans.{PlansData}
use Rattle.gpu_journal.specs.declared.event.Event.{Event}
use Rattle.gpu_hall.specs.Commits.{Return, HasSteps, CameHome}

-- the journal has no event less than before, and at most this number more
abbrev pub GrowsBy : ℕ → List Event → List Event → Type 0
GrowsBy more old new = (length old ≤ length new) × (length new ≤ length old + more)

-- a run that may go on has added at most one event for each member of its batch
abbrev pub StepsGrow : Type 0
StepsGrow = (p : PlansData) (old new : List Event) (s : ℕ) (members : List (List (ℕ × ℕ))) (kept : Bool) → HasSteps p old new s members kept → GrowsBy (length members) old new

-- one that came home has added at most one event more
abbrev pub ReturnsGrow : Type 0
ReturnsGrow = (p : PlansData) (old new : List Event) (s n : ℕ) (members : List (List (ℕ × ℕ))) (how : Return) → CameHome p old new s n members how → GrowsBy (length members + 1) old new
