-- When the run of a stream may go on, while other events come between its steps.
use Rattle.std.specs.Prelude.{◌≡◌, ℕ, Bool, true, false, List, length, Some}
use Rattle.gpu_plan.specs.Plans.{PlansData, number_of}
use Rattle.stream_state.specs.declared.effect.Effect.{Effect}
use Rattle.stream_state.specs.declared.effect.Effect.TheVariants.{Wait, WaitName}
use Rattle.sync_core.specs.Standing.{is_open, first_order}
use Rattle.sync_core.specs.Events.{SyncEvent, standing}
use Rattle.sync_core.specs.Pending.{is_kept, is_blocked, pending}
use Rattle.gpu_journal.specs.declared.event.Event.{Event}
use Rattle.gpu_journal.specs.Waits.{sync_of, standing_of, front}

-- while stream s is open, n is its first unprocessed number, and no wait of it is pending unless the run is paused
pub record GoesOn (streams : ℕ) (h : List SyncEvent) (s n : ℕ) (paused : Bool) : Type 0 where
  pub first : is_open (standing h s) ≡ true → first_order (standing h s).left ≡ Some n
  pub free : is_open (standing h s) ≡ true → paused ≡ false → is_blocked s (standing h s).left (pending streams h) ≡ false

-- the same of a history: the run of number n of stream s may go on
abbrev pub MayGoOn : PlansData → List Event → ℕ → ℕ → Bool → Type 0
MayGoOn p h s n paused = GoesOn (length p.plans) (sync_of p h) s n paused

-- a step of stream s with this effect waits, and its wait is kept
abbrev pub step_keeps : PlansData → List Event → ℕ → Effect → Bool
step_keeps p h s (Wait stream release) = is_kept (length p.plans) (standing_of p h) s (front p h s) stream release
step_keeps p h s (WaitName name release) = is_kept (length p.plans) (standing_of p h) s (front p h s) (number_of p.plans name) release
step_keeps p h s _ = false
