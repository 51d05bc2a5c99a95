-- How a history can go on, also where no number is left, and to its end.
use Rattle.std.specs.Prelude.{◌≡◌, ℕ, ◌≤◌, ◌⊎◌, Bool, true, false, List, [], ◌++◌, Some, slice_get}
use Rattle.std.specs.List.{All}
use Rattle.gpu_plan.specs.Plans.{PlansData, plan_of}
use Rattle.gpu_plan.specs.Places.{flush_places}
use Rattle.gpu_journal.specs.declared.event.Event.{Event}
use Rattle.gpu_journal.specs.declared.event.Event.TheVariants.{Lost}
use Rattle.gpu_journal.specs.declared.event.Why.TheVariants.{Memory}
use Rattle.gpu_journal.specs.World.{known}
use Rattle.gpu_journal.specs.Waits.{left_of, IsOpen}
use Rattle.gpu_journal.specs.Facts.{reach}
use Rattle.gpu_journal.specs.Legal.{MayClose, IsLegal}
use Rattle.gpu_journal.specs.Complete.{IsComplete}

-- the event is a loss as out of memory
abbrev pub is_memory_loss : Event → Bool
is_memory_loss (Lost s Memory words) = true
is_memory_loss _ = false

-- no stream has an unprocessed number
abbrev pub IsIdle : PlansData → List Event → Type 0
IsIdle p h = (s : ℕ) → left_of p h s ≡ []

-- the first flush of stream s without an order, and that every action before it passes
pub record HasNextFlush (p : PlansData) (h : List Event) (s : ℕ) : Type 0 where
  pub place : ℕ
  pub next : slice_get (flush_places (plan_of p s).actions) (known p h s).ordered ≡ Some place
  pub reached : place ≤ reach p h s

-- an open stream has a next flush to which its client can come, or it may close
pub record CanGoOn (p : PlansData) (h : List Event) : Type 0 where
  pub stream : ℕ
  pub still_open : IsOpen p h stream
  pub further : HasNextFlush p h stream ⊎ MayClose p h stream

-- later events, none of them a loss as out of memory, with which the history is legal and complete
pub record CanBeFinished (p : PlansData) (h : List Event) : Type 0 where
  pub later : List Event
  pub keeps : All (λ event. is_memory_loss event ≡ false) later
  pub legal : IsLegal p (later ++ h)
  pub complete : IsComplete p (later ++ h)
