-- Where the flushes of a stream stand among its actions.
use Rattle.std.specs.Prelude.{ℕ, suc, ◌+◌, List, [], ◌∷◌, length, slice_get, unwrap_or, if◌then◌else◌}
use Rattle.std.specs.Option.{option_map}
use Rattle.gpu_plan.specs.declared.plan.Action.{Action}
use Rattle.gpu_plan.specs.Plans.{PlanData, is_flush}

-- the positions of the flushes among actions of which the first has position i
abbrev pub flush_places_from : ℕ → List Action → List ℕ
flush_places_from i [] = []
flush_places_from i (action ∷ actions) = if is_flush action then i ∷ flush_places_from (i + 1) actions else flush_places_from (i + 1) actions

-- the positions of the flushes, in rising order
abbrev pub flush_places : List Action → List ℕ
flush_places actions = flush_places_from 0 actions

-- what the note of a flush says, counting flushes from 0: its position and one more; where there is no such flush, the number of actions
abbrev pub mark_of : PlanData → ℕ → ℕ
mark_of plan flush = unwrap_or (option_map suc (slice_get (flush_places plan.actions) flush)) (length plan.actions)
