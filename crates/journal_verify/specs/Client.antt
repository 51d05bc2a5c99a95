-- The record of a client: the least and the most that it can have done.
use Rattle.std.specs.Prelude.{ℕ, ◌==◌, ◌||◌, Bool, List, length, slice_index}
use Rattle.std.specs.List.{All}
use Rattle.gpu_plan.specs.declared.plan.Action.{Action}
use Rattle.gpu_plan.specs.Plans.{IsWithin}
use Rattle.journal_verify.specs.Reached.{Reached, has_since, IsReached}
use Rattle.journal_verify.specs.Held.{Held, IsHeld}

-- the values after the least, and how far the client can be
pub record Client : Type 0 where
  pub held : Held
  pub reached : Reached

-- the place has the value after the least, or the value is put there later
abbrev pub may_have : Client → ℕ × ℕ → Bool
may_have client word = slice_index client.held.values word.0 == word.1 || has_since client.held.done client.reached word.0 word.1

-- the record is so of a client with these actions, whose puts have a word each
pub record IsClientOfActions (actions : List Action) (client : Client) : Type 0 where
  pub held : IsHeld actions client.held
  pub reached : IsReached actions client.held.done client.reached
  pub within : All (IsWithin (length client.held.values)) actions
