-- The works of a stream: what it does about its own flushes, in order and without numbers.
use Rattle.std.specs.Prelude.{◌≡◌, ℕ, ◌+◌, ◌==◌, Option, Some, None, List, [], ◌∷◌, ◌++◌, filter, if◌then◌else◌}
use Rattle.gpu_cmd.specs.declared.error.CmdError.{CmdError}
use Rattle.stream_state.specs.State.{State, no_errors}
use Rattle.gpu_journal.specs.declared.event.Event.{Event}
use Rattle.gpu_journal.specs.declared.event.Event.TheVariants.{Order, Step, Finish, Lost, Close}
use Rattle.gpu_journal.specs.declared.event.Why.TheVariants.{Error, Memory}
use Rattle.gpu_journal.specs.World.{stream_in}

-- a stream executes a command of these words, finishes a flush, or finds this error in these words
pub data Work : Type 0 where
  Executed : List (ℕ × ℕ) → Work
  Finished : Work
  Refused : CmdError → List (ℕ × ℕ) → Work

-- the work that an event is, if it is one: a step, a finish, or a loss by an error
abbrev pub work_of : Event → Option Work
work_of (Order s n c) = None
work_of (Step s words) = Some (Executed words)
work_of (Finish s n) = Some Finished
work_of (Lost s (Error error) words) = Some (Refused error words)
work_of (Lost s Memory words) = None
work_of (Close s) = None

-- these works with one more, if there is one
abbrev pub with_work : Option Work → List Work → List Work
with_work None before = before
with_work (Some work) before = work ∷ before

-- the works of stream s, the newest first
abbrev pub works : List Event → ℕ → List Work
works [] s = []
works (e ∷ h) s = if stream_in e == s then with_work (work_of e) (works h s) else works h s

-- some works came to be others by works that followed
pub record IsFront (before after : List Work) : Type 0 where
  pub more : List Work
  pub whole : more ++ before ≡ after

-- how many flushes were finished
abbrev pub finishes : List Work → ℕ
finishes [] = 0
finishes (Executed words ∷ before) = finishes before
finishes (Finished ∷ before) = finishes before + 1
finishes (Refused error words ∷ before) = finishes before

-- the events of stream s alone
abbrev pub own_events : List Event → ℕ → List Event
own_events h s = filter (λ e. stream_in e == s) h

-- the state without its counts of errors
abbrev pub bare : State → State
bare state = record state { errors = no_errors }
