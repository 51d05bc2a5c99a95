-- What a client may have put into its words, when only the ends of what it has done are known.
use Rattle.std.specs.Prelude.{◌≡◌, ℕ, ◌≤◌, List}
use Rattle.gpu_plan.specs.declared.plan.Action.{Action}
use Rattle.gpu_plan.specs.Values.{value_at}

-- the value is that of the place after some number of actions, between the two that are given
pub record MayHold (actions : List Action) (least most place value : ℕ) : Type 0 where
  pub done : ℕ
  pub since : least ≤ done
  pub until : done ≤ most
  pub held : value_at actions done place ≡ value
