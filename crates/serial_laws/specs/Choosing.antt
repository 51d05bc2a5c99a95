-- The choice among the streams that are at home, which no run has taken out.
use Rattle.std.specs.Prelude.{◌≡◌, ℕ, Bool, ◌&&◌, List, length, Option}
use Rattle.gpu_plan.specs.Plans.{PlansData, plan_of}
use Rattle.sync_core.specs.Standing.{IsKnown}
use Rattle.sync_core.specs.Core.{Core, StandsFor}
use Rattle.seq_sched.specs.declared.seat.Seat.{Seat}
use Rattle.seq_sched.specs.Seats.{seat_of}
use Rattle.gpu_journal.specs.declared.event.Event.{Event}
use Rattle.gpu_journal.specs.Waits.{sync_of}
use Rattle.gpu_journal.specs.Serial.{best, is_runnable, comes_before, rank}

-- of the streams that are at home and can run, the one that stands before the others
abbrev pub choice_at_home : PlansData → List Event → (ℕ → Bool) → Option ℕ
choice_at_home p h at_home = best (λ s. at_home s && is_runnable p h s) (comes_before p h) (length p.plans)

-- the seats of a scheduler are those of the streams of a script, with these at home
pub record AreSeats (p : PlansData) (at_home : ℕ → Bool) (seats : List Seat) : Type 0 where
  pub count : length seats ≡ length p.plans
  pub home : (s : ℕ) → IsKnown (length p.plans) s → (seat_of seats s).home ≡ at_home s
  pub priority : (s : ℕ) → IsKnown (length p.plans) s → (seat_of seats s).priority ≡ rank (plan_of p s).priority

-- the core is that of a history
pub record IsCoreOf (p : PlansData) (h : List Event) (core : Core) : Type 0 where
  pub count : length core.streams ≡ length p.plans
  pub stands : StandsFor core (sync_of p h)
