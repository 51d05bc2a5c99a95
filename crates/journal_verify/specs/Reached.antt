-- How far a client can be, and where it put which values before that.
use Rattle.std.specs.Prelude.{◌≡◌, ℕ, ◌+◌, ◌-◌, ◌≤◌, ◌<◌, ◌&&◌, ◌||◌, ◌==◌, nat_le, nat_lt, Bool, false, if◌then◌else◌, List, length, take, Option, Some, None, slice_get, slice_index, slice_set}
use Rattle.std.specs.Bool.{Decides}
use Rattle.std.specs.List.{All}
use Rattle.std.specs.declared.cmp.Ordering.{Ordering}
use Rattle.std.specs.Ordering.{nat_cmp, ordering_then, is_eq}
use Rattle.std.specs.Map.{lookup}
use Rattle.gpu_plan.specs.declared.plan.Action.{Action}
use Rattle.gpu_plan.specs.declared.plan.Action.TheVariants.{Put, Flush, Finish, Token, Close}
use Rattle.gpu_plan.specs.Plans.{IsWithin}
use Rattle.gpu_plan.specs.Passes.{flush_count, flushes}
use Rattle.journal_verify.specs.Held.{stored}

-- a position, how many flushes stand before it, the value of the last put at each place and the position after that put,
-- which is 0 where there is none, and the position of an older put of each value at each place
pub record Reached : Type 0 where
  pub upto : ℕ
  pub behind : ℕ
  pub values : List ℕ
  pub ends : List ℕ
  pub older : List ((ℕ × ℕ) × ℕ)

-- the order of pairs of a place and a value
abbrev pub pair_cmp : ℕ × ℕ → ℕ × ℕ → Ordering
pair_cmp x y = ordering_then (nat_cmp x.0 y.0) (nat_cmp x.1 y.1)

-- the record of a place and a value among the older puts
abbrev pub last_of : List ((ℕ × ℕ) × ℕ) → ℕ → ℕ → Option ℕ
last_of puts place value = lookup (λ (key : ℕ × ℕ). is_eq (pair_cmp (place, value) key)) puts

-- a put stands at a position or after it
abbrev pub is_since : ℕ → Option ℕ → Bool
is_since from None = false
is_since from (Some at) = nat_le from at

-- the last put at the place is one of the value, and stands at a position or after it
abbrev pub is_last_since : ℕ → Reached → ℕ → ℕ → Bool
is_last_since from reached place value = slice_index reached.values place == value && nat_lt from (slice_index reached.ends place)

-- by the record, a put of the value at the place stands at a position or after it
abbrev pub has_since : ℕ → Reached → ℕ → ℕ → Bool
has_since from reached place value = is_last_since from reached place value || is_since from (last_of reached.older place value)

-- the value is put at the place by an action from one position on and before another
pub record PutBetween (actions : List Action) (from upto place value : ℕ) : Type 0 where
  pub at : ℕ
  pub since : from ≤ at
  pub before : at < upto
  pub put : slice_get actions at ≡ Some (Put place value)

-- the older put that is kept of a place and a value once the last put at a place `p` is kept among these, if it stands at
-- a position or after it
abbrev pub older_with : ℕ → ℕ → Reached → ℕ → ℕ → Option ℕ
older_with done p old place value = if (p == place && slice_index old.values p == value) && nat_lt done (slice_index old.ends p) then Some (slice_index old.ends p - 1) else last_of old.older place value

-- the last put at a place is kept among the older ones, if it stands at a position or after it
pub record IsPutKept (done p : ℕ) (old new : Reached) : Type 0 where
  pub upto : new.upto ≡ old.upto
  pub behind : new.behind ≡ old.behind
  pub values : new.values ≡ old.values
  pub ends : new.ends ≡ old.ends
  pub older : (place value : ℕ) → last_of new.older place value ≡ older_with done p old place value

-- the position after the last put at each place, after one more action, which stands at this position
abbrev pub ends_after : Action → ℕ → List ℕ → List ℕ
ends_after (Put place value) at ends = slice_set ends place (at + 1)
ends_after (Flush put fences) at ends = ends
ends_after Finish at ends = ends
ends_after (Token token) at ends = ends
ends_after Close at ends = ends

-- the older put that is kept of a place and a value after one more action
abbrev pub older_after : Action → ℕ → Reached → ℕ → ℕ → Option ℕ
older_after (Put p v) done old place value = older_with done p old place value
older_after (Flush put fences) done old place value = last_of old.older place value
older_after Finish done old place value = last_of old.older place value
older_after (Token token) done old place value = last_of old.older place value
older_after Close done old place value = last_of old.older place value

-- one more action is taken up, of a client that has done this number
pub record IsTakenUp (done : ℕ) (action : Action) (old new : Reached) : Type 0 where
  pub upto : new.upto ≡ old.upto + 1
  pub behind : new.behind ≡ old.behind + flush_count action
  pub values : new.values ≡ stored action old.values
  pub ends : new.ends ≡ ends_after action old.upto old.ends
  pub older : (place value : ℕ) → last_of new.older place value ≡ older_after action done old place value

-- the record is so of these actions, of which the client has done this number
pub record IsReached (actions : List Action) (done : ℕ) (reached : Reached) : Type 0 where
  pub within : reached.upto ≤ length actions
  pub behind : reached.behind ≡ flushes (take reached.upto actions)
  pub valued : All (IsWithin (length reached.values)) actions
  pub ended : All (IsWithin (length reached.ends)) actions
  pub last : (from place value : ℕ) → PutBetween actions from reached.upto place value → from < slice_index reached.ends place
  pub puts : (from place value : ℕ) → done ≤ from → Decides (has_since from reached place value) (PutBetween actions from reached.upto place value)
