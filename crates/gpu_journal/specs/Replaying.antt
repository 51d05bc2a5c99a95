-- What replay keeps, and what its steps ask of it.
use Rattle.std.specs.Prelude.{◌≡◌, ℕ, zero, suc, ◌+◌, ◌≤◌, List, length, slice_index_or}
use Rattle.gpu_store.specs.Images.{Pictures}
use Rattle.gpu_plan.specs.Plans.{PlansData}
use Rattle.stream_state.specs.State.{State, Errors, IsBounded, first_state}
use Rattle.gpu_journal.specs.declared.event.Event.{Event}
use Rattle.gpu_journal.specs.World.{replay, state_of}

-- how many errors there are
abbrev pub total_errors : Errors → ℕ
total_errors errors = errors.invalid_value + errors.invalid_operation + errors.out_of_texels

-- a stream's words are within its quota, and each of its errors stands for at least one of them
pub record IsWithinQuota (state : State) : Type 0 where
  pub bounded : IsBounded state
  pub few : total_errors state.errors ≤ state.fetched

-- the state of stream s among those of the streams from 1 on
abbrev pub state_in : List State → ℕ → State
state_in states zero = first_state
state_in states (suc k) = slice_index_or states k first_state

-- the images and the states are those that a history leaves
pub record Shows (p : PlansData) (h : List Event) (images : Pictures) (states : List State) : Type 0 where
  pub drawn : images ≡ replay p h
  pub count : length states ≡ length p.plans
  pub each : (s : ℕ) → state_in states s ≡ state_of p h s
