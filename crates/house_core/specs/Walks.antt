-- How far a client was found to come.
use Rattle.std.specs.Prelude.{◌≡◌, ℕ, ◌≤◌, List, [], ◌∷◌, take}
use Rattle.gpu_plan.specs.declared.plan.Action.{Action}
use Rattle.gpu_plan.specs.Passes.{bound, flushes}
use Rattle.house_core.specs.declared.walk.Walk.{Walk}

-- before the first action
abbrev pub start : Walk
start = record { upto = 0; behind = 0 }

-- its actions up to there pass at this number of finished flushes and this greatest token, and a given number of of
-- them are flushes
pub record HasWalked (actions : List Action) (finished greatest : ℕ) (walk : Walk) : Type 0 where
  pub below : walk.upto ≤ bound actions finished (greatest ∷ [])
  pub behind : walk.behind ≡ flushes (take walk.upto actions)
