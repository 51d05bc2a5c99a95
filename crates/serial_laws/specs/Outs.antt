-- Laws of streams whose runs are out, of their ends, and of the choice among those that are at home.
use Rattle.std.specs.Prelude.{◌≡◌, ◌+◌, ◌≤◌, ℕ, Bool, true, false, not, ◌==◌, ◌&&◌, ◌↔◌, List, ◌∷◌, length, Some, None, slice_get}
use Rattle.gpu_plan.specs.Plans.{PlansData, plan_of}
use Rattle.gpu_plan.specs.Passes.{flushes}
use Rattle.gpu_plan.specs.Places.{flush_places}
use Rattle.gpu_plan.specs.declared.acting.TheConstants.{MOST_FLUSHES}
use Rattle.sync_core.specs.Standing.{IsKnown, is_open}
use Rattle.sync_core.specs.Core.{Core}
use Rattle.seq_sched.specs.declared.seat.Seat.{Seat}
use Rattle.seq_sched.specs.Choice as seats
use Rattle.gpu_journal.specs.declared.event.Event.{Event}
use Rattle.gpu_journal.specs.declared.event.Event.TheVariants.{Order, Step}
use Rattle.gpu_journal.specs.World.{world, stream_in, asked_by, known}
use Rattle.gpu_journal.specs.Waits.{standing_of, drawn, IsOpen}
use Rattle.gpu_journal.specs.Legal.{IsLegal}
use Rattle.gpu_journal.specs.Serial.{is_runnable, choice}
use Rattle.serial_laws.specs.Scripts.{AreLawfulPlans}
use Rattle.serial_laws.specs.Runs.{MayGoOn, step_keeps}
use Rattle.serial_laws.specs.Needs.{need, needs}
use Rattle.serial_laws.specs.Choosing.{choice_at_home, AreSeats, IsCoreOf}

-- ---- a run that is out

-- an event of another stream leaves a run as it was
abbrev pub OtherGoesOn : Type 0
OtherGoesOn = (p : PlansData) (e : Event) (h : List Event) (t n : ℕ) (paused : Bool) → (stream_in e == t) ≡ false → MayGoOn p h t n paused → MayGoOn p (e ∷ h) t n paused

-- so does an order of its own stream
abbrev pub OrderGoesOn : Type 0
OrderGoesOn = (p : PlansData) (h : List Event) (s m c n : ℕ) (paused : Bool) → MayGoOn p h s n paused → MayGoOn p (Order s m c ∷ h) s n paused

-- a step of the run pauses it exactly where the step's wait is kept
abbrev pub StepGoesOn : Type 0
StepGoesOn = (p : PlansData) (h : List Event) (s : ℕ) (words : List (ℕ × ℕ)) (n : ℕ) (paused : Bool) → paused ≡ step_keeps p h s (asked_by p s words (world p h)) → MayGoOn p h s n false → MayGoOn p (Step s words ∷ h) s n paused

-- after a step of a run its stream can run, unless the step's wait was kept
abbrev pub StepRuns : Type 0
StepRuns = (p : PlansData) (h : List Event) (s : ℕ) (words : List (ℕ × ℕ)) (n : ℕ) → IsOpen p h s → MayGoOn p h s n false → is_runnable p (Step s words ∷ h) s ≡ not (step_keeps p h s (asked_by p s words (world p h)))

-- an event changes the need of its own stream alone
abbrev pub NeedsOfOne : Type 0
NeedsOfOne = (p : PlansData) (e : Event) (h : List Event) (n : ℕ) → IsKnown n (stream_in e) → needs p (e ∷ h) n + need p h (stream_in e) ≡ needs p h n + need p (e ∷ h) (stream_in e)

-- a legal history draws few numbers, so 32 bits hold each
abbrev pub DrawnFew : Type 0
DrawnFew = (p : PlansData) (h : List Event) → AreLawfulPlans p → IsLegal p h → drawn p h ≤ MOST_FLUSHES

-- ---- streams that have ended

-- a closed stream has all its flushes ordered
abbrev pub ClosedHasOrdered : Type 0
ClosedHasOrdered = (p : PlansData) (h : List Event) (s : ℕ) → IsLegal p h → (standing_of p h s).closed ≡ true → (known p h s).ordered ≡ flushes (plan_of p s).actions

-- and is not lost
abbrev pub ClosedIsKept : Type 0
ClosedIsKept = (p : PlansData) (h : List Event) (s : ℕ) → IsLegal p h → (standing_of p h s).closed ≡ true → (standing_of p h s).lost ≡ false

-- a stream that is not lost and has a flush without an order is open
abbrev pub NextIsOpen : Type 0
NextIsOpen = (p : PlansData) (h : List Event) (s c : ℕ) → IsLegal p h → slice_get (flush_places (plan_of p s).actions) (known p h s).ordered ≡ Some c → (standing_of p h s).lost ≡ false → is_open (standing_of p h s) ≡ true

-- ---- the choice among the streams at home

-- with all streams at home it is the choice of the rule for one thread
abbrev pub AllAtHome : Type 0
AllAtHome = (p : PlansData) (h : List Event) (at_home : ℕ → Bool) → ((t : ℕ) → IsKnown (length p.plans) t → at_home t ≡ true) → choice_at_home p h at_home ≡ choice p h

-- it chooses none exactly where no stream at home can run
abbrev pub NoneAtHome : Type 0
NoneAtHome = (p : PlansData) (h : List Event) (at_home : ℕ → Bool) → (choice_at_home p h at_home ≡ None) ↔ ((t : ℕ) → IsKnown (length p.plans) t → (at_home t && is_runnable p h t) ≡ false)

-- the choice of the scheduler, over the seats of the streams and the core of the history, is this one
abbrev pub SchedulerChooses : Type 0
SchedulerChooses = (p : PlansData) (h : List Event) (at_home : ℕ → Bool) (row : List Seat) (core : Core) → AreSeats p at_home row → IsCoreOf p h core → seats.least_runnable row core ≡ choice_at_home p h at_home
