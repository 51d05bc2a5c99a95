-- What the streams of a script do.
use Rattle.std.specs.Prelude.{◌≡◌, ℕ, zero, suc, [], ◌∷◌, ◌+◌, position, slice_index_or, ◌^◌, ◌-◌, ◌<◌, ◌≤◌, Bool, true, false, not, List, length, replicate, take, slice_get, sum_by, Some, None, Option, IsTrue}
use Rattle.std.specs.List.{All, list_all, count_by}
use Rattle.std.specs.Option.{option_map_or}
use Rattle.gpu_cmd.specs.declared.areas.Areas.{Areas}
use Rattle.gpu_cmd.specs.declared.areas.Span.{Span}
use Rattle.gpu_cmd.specs.Lawful.{IsLawfulAreas, places_of}
use Rattle.gpu_cmd.specs.Spans.{words_in}
use Rattle.gpu_cmd.specs.declared.name.Name.{Name}
use Rattle.script_lines.specs.Names.{is_name}
use Rattle.gpu_plan.specs.declared.acting.TheConstants.{MOST_ACTIONS, MOST_FLUSHES, MOST_FENCES}
use Rattle.gpu_plan.specs.declared.plan.Action.{Action}
use Rattle.gpu_plan.specs.declared.plan.Action.TheVariants.{Put, Flush, Finish, Token, Close}
use Rattle.gpu_plan.specs.declared.adding.TheConstants.{MOST_STREAMS}
use Rattle.gpu_cmd.specs.declared.priority.Priority.{Priority}
use Rattle.gpu_cmd.specs.declared.priority.Priority.TheVariants.{Normal}

-- what one stream is called, has and does; a dump is the place of an action, and the result place that is read after it
pub record PlanData : Type 0 where
  pub name : Name
  pub areas : Areas
  pub priority : Priority
  pub actions : List Action
  pub dumps : List (ℕ × ℕ)

-- the areas of a stream that has a ring and no memory
abbrev pub ring_alone : ℕ → Areas
ring_alone ring = record { ring = ring; memories = replicate 16 None; results = replicate 16 None }

-- a put stays within this number of places, and its value within 32 bits
abbrev pub IsWithin : ℕ → Action → Type 0
IsWithin places (Put place value) = (place < places) × (value < 2 ^ 32)
IsWithin places (Flush put fences) = Unit {0}
IsWithin places Finish = Unit {0}
IsWithin places (Token token) = Unit {0}
IsWithin places Close = Unit {0}

-- a flush has few fences
abbrev pub HasFewFences : Action → Type 0
HasFewFences (Put place value) = Unit {0}
HasFewFences (Flush put fences) = length fences ≤ MOST_FENCES
HasFewFences Finish = Unit {0}
HasFewFences (Token token) = Unit {0}
HasFewFences Close = Unit {0}

-- the action is no Close
abbrev pub stays_open : Action → Bool
stays_open (Put place value) = true
stays_open (Flush put fences) = true
stays_open Finish = true
stays_open (Token token) = true
stays_open Close = false

abbrev pub is_flush : Action → Bool
is_flush (Put place value) = false
is_flush (Flush put fences) = true
is_flush Finish = false
is_flush (Token token) = false
is_flush Close = false

-- a Close is among the actions
abbrev pub is_closed : List Action → Bool
is_closed actions = not (list_all stays_open actions)

-- what the format of scripts allows a stream; no action but the last is a Close
pub record IsLawfulPlan (areas : Areas) (actions : List Action) : Type 0 where
  pub laid_out : IsLawfulAreas areas
  pub within : All (IsWithin (places_of areas)) actions
  pub fenced : All HasFewFences actions
  pub closes_last : IsTrue (list_all stays_open (take (length actions - 1) actions))
  pub few : length actions ≤ MOST_ACTIONS

-- a dump stands at a Finish, and reads a declared result place
abbrev pub IsDump : List (Option Span) → List Action → ℕ × ℕ → Type 0
IsDump results actions dump = (slice_get actions dump.0 ≡ Some Finish) × (dump.1 < words_in results)

-- each dump stands after the one before it, and the first at action k or later
abbrev pub RiseFrom : ℕ → List (ℕ × ℕ) → Type 0
RiseFrom k [] = Unit {0}
RiseFrom k (dump ∷ dumps) = (k ≤ dump.0) × RiseFrom (dump.0 + 1) dumps

-- how many actions the plans have in all
abbrev pub actions_in : List PlanData → ℕ
actions_in plans = sum_by (λ plan. length plan.actions) plans

-- how many flushes the plans have in all
abbrev pub flushes_in : List PlanData → ℕ
flushes_in plans = sum_by (λ plan. count_by is_flush plan.actions) plans

-- what the format of scripts allows all streams together
pub record IsLawfulScript (plans : List PlanData) : Type 0 where
  pub streams : length plans ≤ MOST_STREAMS
  pub actions : actions_in plans ≤ MOST_ACTIONS
  pub flushes : flushes_in plans ≤ MOST_FLUSHES

-- a script: its version, and its streams in the order of their lines
pub record PlansData : Type 0 where
  pub version : ℕ
  pub plans : List PlanData

-- the plan of a stream that no script has
abbrev pub no_plan : PlanData
no_plan = record { name = record { namespace = 0; id = 0 }; areas = ring_alone 0; priority = Normal; actions = []; dumps = [] }

-- the plan of stream s of a script; streams count from 1
abbrev pub plan_of : PlansData → ℕ → PlanData
plan_of script zero = no_plan
plan_of script (suc k) = slice_index_or script.plans k no_plan

-- a plan is that of the stream with this name
abbrev pub is_of : Name → PlanData → Bool
is_of name plan = is_name name plan.name

-- the number of the stream that has a name, counted from 1 in the order of the plans, or 0 where none has it
abbrev pub number_of : List PlanData → Name → ℕ
number_of plans name = option_map_or suc (position (is_of name) plans) 0
