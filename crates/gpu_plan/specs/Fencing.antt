-- What flushes wait for, as a plan keeps it: apart from its actions, and only of flushes that have fences.
use Rattle.std.specs.Prelude.{ℕ, ◌+◌, ◌<◌, ◌==◌, List, [], ◌∷◌, ◌++◌, AllPairs, Option, Some, if◌then◌else◌}
use Rattle.gpu_plan.specs.declared.plan.Action.{Action}
use Rattle.gpu_plan.specs.declared.plan.Action.TheVariants.{Flush}

-- the fences of a flush
abbrev pub fences_in : Option Action → List (ℕ × ℕ)
fences_in (Some (Flush put fences)) = fences
fences_in _ = []

-- what is noted of the fences of an action at place k: nothing where it has none
abbrev pub noted_fences : ℕ → List (ℕ × ℕ) → List (ℕ × List (ℕ × ℕ))
noted_fences k [] = []
noted_fences k (fence ∷ fences) = (k, fence ∷ fences) ∷ []

-- what is noted of the flushes among actions of which the first has place k
abbrev pub fenced_from : ℕ → List Action → List (ℕ × List (ℕ × ℕ))
fenced_from k [] = []
fenced_from k (action ∷ actions) = noted_fences k (fences_in (Some action)) ++ fenced_from (k + 1) actions

-- the fences that are noted of a place
abbrev pub noted_at : ℕ → List (ℕ × List (ℕ × ℕ)) → List (ℕ × ℕ)
noted_at k [] = []
noted_at k (flush ∷ flushes) = if flush.0 == k then flush.1 else noted_at k flushes

-- one noted flush stands before another
abbrev pub IsBefore : ℕ × List (ℕ × ℕ) → ℕ × List (ℕ × ℕ) → Type 0
IsBefore one two = one.0 < two.0

-- the places of noted flushes rise
abbrev pub Rise : List (ℕ × List (ℕ × ℕ)) → Type 0
Rise flushes = AllPairs IsBefore flushes
