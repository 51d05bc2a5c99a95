-- The values of a client's words after a given number of actions.
use Rattle.std.specs.Prelude.{◌≡◌, ℕ, ◌≤◌, List, length, slice_index, slice_set}
use Rattle.gpu_plan.specs.declared.plan.Action.{Action}
use Rattle.gpu_plan.specs.declared.plan.Action.TheVariants.{Put, Flush, Finish, Token, Close}
use Rattle.gpu_plan.specs.Values.{value_at}

-- how many actions are done, and the value of each place then
pub record Held : Type 0 where
  pub done : ℕ
  pub values : List ℕ

-- the values after one more action
abbrev pub stored : Action → List ℕ → List ℕ
stored (Put place value) values = slice_set values place value
stored (Flush put fences) values = values
stored Finish values = values
stored (Token token) values = values
stored Close values = values

-- the record is so of these actions
pub record IsHeld (actions : List Action) (held : Held) : Type 0 where
  pub within : held.done ≤ length actions
  pub values : (place : ℕ) → slice_index held.values place ≡ value_at actions held.done place
