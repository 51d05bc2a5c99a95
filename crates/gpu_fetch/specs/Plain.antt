-- Words that one thread keeps for itself, as contracts see them.
use Rattle.std.specs.Prelude.{◌≡◌, ℕ, ◌+◌, ◌≤◌, ◌<◌, List, length, slice_index, slice_get}
use Rattle.std.specs.Option.{IsSomeAnd}
use Rattle.gpu_cmd.specs.Lawful.{places_of}
use Rattle.gpu_plan.specs.declared.plan.Action.{Action}
use Rattle.gpu_plan.specs.declared.plan.Action.TheVariants.{Put, Flush, Finish, Token, Close}
use Rattle.gpu_plan.specs.Plans.{PlanData}
use Rattle.gpu_plan.specs.Values.{value_at}
use Rattle.gpu_fetch.specs.Side.{SideData, side_reach}

-- the plan of the client, and how many of its actions are done
pub record PlainData : Type 0 where
  pub plan : PlanData
  pub done : ℕ

-- no action is done
abbrev pub fresh_words : PlanData → PlainData
fresh_words plan = record { plan = plan; done = 0 }

-- one action more is done
abbrev pub one_further : PlainData → PlainData
one_further words = record words { done = words.done + 1 }

-- the action at a position is of this kind
abbrev pub IsNext : (Action → Type 0) → List Action → ℕ → Type 0
IsNext Kind actions position = IsSomeAnd (slice_get actions position) Kind

abbrev pub IsPut : Action → Type 0
IsPut (Put place value) = Unit {0}
IsPut (Flush put fences) = ⊥
IsPut Finish = ⊥
IsPut (Token token) = ⊥
IsPut Close = ⊥

-- the actions from one place up to another are puts
abbrev pub ArePuts : List Action → ℕ → ℕ → Type 0
ArePuts actions from to = (k : ℕ) → from ≤ k → k < to → IsNext IsPut actions k

abbrev pub IsFlush : Action → Type 0
IsFlush (Put place value) = ⊥
IsFlush (Flush put fences) = Unit {0}
IsFlush Finish = ⊥
IsFlush (Token token) = ⊥
IsFlush Close = ⊥

abbrev pub IsAwait : Action → Type 0
IsAwait (Put place value) = ⊥
IsAwait (Flush put fences) = ⊥
IsAwait Finish = Unit {0}
IsAwait (Token token) = Unit {0}
IsAwait Close = ⊥

-- each place has its value after a given number of actions
pub record HoldItsValues (plan : PlanData) (done : ℕ) (values : List ℕ) : Type 0 where
  pub count : length values ≡ places_of plan.areas
  pub within : done ≤ length plan.actions
  pub each : (place : ℕ) → slice_index values place ≡ value_at plan.actions done place

-- words and a side are of one plan, the latest flush met is done, and the client has not gone past its bound
pub record IsBeside (side : SideData) (words : PlainData) : Type 0 where
  pub plan : side.plan ≡ words.plan
  pub met : side.met ≤ words.done
  pub within : words.done ≤ side_reach side

-- and so is a note, whose flush is done
abbrev pub IsNoteBeside : SideData → PlainData → ℕ → Type 0
IsNoteBeside side words mark = IsBeside side words × (mark ≤ words.done)

-- the word is the value of its place after the actions that are done
abbrev pub IsValueOfPlace : PlainData → ℕ × ℕ → Type 0
IsValueOfPlace words word = word.1 ≡ value_at words.plan.actions words.done word.0
