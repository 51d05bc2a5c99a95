-- The serial history of the rule for one thread: of each history it gives the one event that follows.
use Rattle.std.specs.Prelude.{◌≡◌, ℕ, zero, suc, ◌+◌, ◌*◌, Bool, true, false, not, ◌&&◌, ◌||◌, ◌==◌, nat_lt, Option, Some, None, option_map, unwrap_or, is_some, Result, Ok, Err, List, [], ◌∷◌, length, take, slice_get, sum_by, if◌then◌else◌}
use Rattle.gpu_word.specs.Outcome.{when}
use Rattle.gpu_cmd.specs.declared.command.Command.{Command}
use Rattle.gpu_cmd.specs.declared.error.CmdError.{CmdError}
use Rattle.gpu_cmd.specs.Copied.{fetched}
use Rattle.gpu_plan.specs.declared.plan.Action.{Action}
use Rattle.gpu_plan.specs.declared.plan.Action.TheVariants as actions
use Rattle.gpu_cmd.specs.declared.priority.Priority.{Priority}
use Rattle.gpu_cmd.specs.declared.priority.Priority.TheVariants.{High, Normal, Low}
use Rattle.gpu_plan.specs.Plans.{PlansData, PlanData, plan_of}
use Rattle.gpu_plan.specs.Values.{value_at}
use Rattle.gpu_plan.specs.Passes.{flushes}
use Rattle.gpu_plan.specs.Places.{flush_places}
pub use Rattle.stream_state.specs.Steps.{either}
use Rattle.sync_core.specs.Standing.{is_open, first_order}
use Rattle.sync_core.specs.Pending.{is_blocked}
use Rattle.gpu_journal.specs.declared.event.Event.{Event}
use Rattle.gpu_journal.specs.declared.event.Event.TheVariants.{Order, Step, Finish, Lost, Close}
use Rattle.gpu_journal.specs.declared.event.Why.TheVariants.{Error}
use Rattle.gpu_journal.specs.World.{known}
use Rattle.gpu_journal.specs.Waits.{standing_of, left_of, front, drawn, pending_in}
use Rattle.gpu_journal.specs.Facts.{facts_at, verdict_at, reach}

-- ---- choices among streams

-- the first of the streams 1 to n that passes a test
abbrev pub first : (ℕ → Bool) → ℕ → Option ℕ
first test zero = None
first test (suc n) = either (first test n) (when (test (suc n)) (suc n))

-- the better one of the best so far and of stream s, where that passes the test
abbrev pub better : (ℕ → ℕ → Bool) → ℕ → Bool → Option ℕ → Option ℕ
better before s passes None = when passes s
better before s passes (Some t) = if passes && before s t then Some s else Some t

-- of the streams 1 to n that pass a test, the one that stands before the others
abbrev pub best : (ℕ → Bool) → (ℕ → ℕ → Bool) → ℕ → Option ℕ
best test before zero = None
best test before (suc n) = better before (suc n) (test (suc n)) (best test before n)

-- ---- rounds

-- stream s has an unprocessed number, and no wait of the first is pending
abbrev pub is_runnable : PlansData → List Event → ℕ → Bool
is_runnable p h s = is_some (first_order (left_of p h s)) && not (is_blocked s (left_of p h s) (pending_in p h))

-- no stream can run: the clients go on as far as they can
abbrev pub begins_round : PlansData → List Event → Bool
begins_round p h = not (is_some (first (is_runnable p h) (length p.plans)))

-- how many actions the client of stream s has done: as many as it could when the round began
abbrev pub count : PlansData → List Event → ℕ → ℕ
count p [] s = reach p [] s
count p (e ∷ h) s = if begins_round p (e ∷ h) then reach p (e ∷ h) s else count p h s

-- ---- the three phases of a round

-- stream s is neither lost nor closed
abbrev pub stays : PlansData → List Event → ℕ → Bool
stays p h s = is_open (standing_of p h s)

-- first: the client of stream s has passed a flush that has no order
abbrev pub has_flush : PlansData → List Event → ℕ → Bool
has_flush p h s = stays p h s && nat_lt (known p h s).ordered (flushes (take (count p h s) (plan_of p s).actions))

-- the order of that flush; where a client has passed a flush without an order, there is one
abbrev pub order_event : PlansData → List Event → ℕ → Event
order_event p h s = Order s (drawn p h + 1) (unwrap_or (slice_get (flush_places (plan_of p s).actions) (known p h s).ordered) 0)

-- the action is a Close
abbrev pub is_close : Option Action → Bool
is_close (Some actions.Close) = true
is_close _ = false

-- second: the client of stream s stands at its Close
abbrev pub is_at_close : PlansData → List Event → ℕ → Bool
is_at_close p h s = stays p h s && is_close (slice_get (plan_of p s).actions (count p h s))

-- High before Normal before Low
abbrev pub rank : Priority → ℕ
rank High = 0
rank Normal = 1
rank Low = 2

-- stream s runs before stream t: its priority is higher, or the same and its first number lower
abbrev pub comes_before : PlansData → List Event → ℕ → ℕ → Bool
comes_before p h s t =
    nat_lt (rank (plan_of p s).priority) (rank (plan_of p t).priority)
    || (rank (plan_of p s).priority == rank (plan_of p t).priority && nat_lt (front p h s) (front p h t))

-- third: the stream that the scheduler chooses
abbrev pub choice : PlansData → List Event → Option ℕ
choice p h = best (is_runnable p h) (comes_before p h) (length p.plans)

-- the stream that runs: after a step its stream goes on, unless the step's wait was kept; after every other event there
-- is a new choice
abbrev pub runner : PlansData → List Event → Option ℕ
runner p (Step s words ∷ h) = if is_runnable p (Step s words ∷ h) s then Some s else choice p (Step s words ∷ h)
runner p h = choice p h

-- a command is executed, and an error loses its stream
abbrev pub judged_event : ℕ → List (ℕ × ℕ) → Result Command CmdError → Event
judged_event s words (Ok command) = Step s words
judged_event s words (Err error) = Lost s (Error error) words

-- the words of the next command of stream s, as its client has put them
abbrev pub next_words : PlansData → List Event → ℕ → List (ℕ × ℕ)
next_words p h s = fetched (value_at (plan_of p s).actions (count p h s)) (facts_at p h s)

-- what the run of stream s does next: it finishes where nothing is left of the flush, and else takes the next command
abbrev pub run_event : PlansData → List Event → ℕ → Event
run_event p h s = if (facts_at p h s).get == (facts_at p h s).put then Finish s (front p h s) else judged_event s (next_words p h s) (verdict_at p h s (next_words p h s))

-- ---- the history

-- the event that follows: the order of a flush that a client has passed, else a close, else what the chosen stream does
unfoldable pub next : PlansData → List Event → Option Event
next p h =
    either (option_map (order_event p h) (first (has_flush p h) (length p.plans)))
    (either (option_map Close (first (is_at_close p h) (length p.plans)))
    (option_map (run_event p h) (runner p h)))

-- each event is the one that follows those before it
abbrev pub IsPlayed : PlansData → List Event → Type 0
IsPlayed p [] = Unit {0}
IsPlayed p (e ∷ h) = (next p h ≡ Some e) × IsPlayed p h

-- and none follows
pub record IsSerial (p : PlansData) (h : List Event) : Type 0 where
  pub played : IsPlayed p h
  pub ended : next p h ≡ None

-- the history with the event that follows, if one does
abbrev pub grown : List Event → Option Event → List Event
grown h None = h
grown h (Some e) = e ∷ h

-- the history after a given number of events, or after the last that follows
unfoldable pub events : PlansData → ℕ → List Event
events p zero = []
events p (suc n) = grown (events p n) (next p (events p n))

-- enough for the events of one stream: for each flush an order, a finish and fewer steps than the ring has entries, and
-- one end
abbrev pub most_of : PlanData → ℕ
most_of plan = flushes plan.actions * (plan.areas.ring + 2) + 1

-- enough for the events of all streams
abbrev pub most_events : PlansData → ℕ
most_events p = sum_by most_of p.plans

-- the serial history: from no event on, each time the one that follows
unfoldable pub serial : PlansData → List Event
serial p = events p (most_events p)
