-- The choice of the stream that runs next.
use Rattle.std.specs.Prelude.{◌≡◌, ℕ, Bool, true, false, ◌&&◌, ◌||◌, not, ◌==◌, nat_lt, List, [], length, Option, Some, None, is_some, option_map, if◌then◌else◌, zero, suc}
use Rattle.sync_core.specs.Standing.{IsKnown, first_order, front_of}
use Rattle.sync_core.specs.Core.{Core, unprocessed_of, blocked}
use Rattle.seq_sched.specs.declared.seat.Seat.{Seat}
use Rattle.seq_sched.specs.declared.seat.Runner.{Runner}
use Rattle.seq_sched.specs.Seats.{seat_of}

-- a stream with this seat can run: it is at home and has an unprocessed number, and no wait of its first one is pending
abbrev pub can_run : Seat → Core → ℕ → Bool
can_run seat core s = seat.home && (is_some (first_order (unprocessed_of core s)) && not (blocked core s))

-- a stream with its priority and its first number
abbrev pub runner_of : Seat → Core → ℕ → Runner
runner_of seat core s = record { stream = s; priority = seat.priority; front = front_of (unprocessed_of core s) }

-- stream s with this seat, if it can run
abbrev pub candidate : Seat → Core → ℕ → Option Runner
candidate seat core s = if can_run seat core s then Some (runner_of seat core s) else None

-- the pair (priority, first number) of a is less than that of b
abbrev pub goes_before : Runner → Runner → Bool
goes_before a b = nat_lt a.priority b.priority || ((a.priority == b.priority) && nat_lt a.front b.front)

-- the lesser of the two, and the first where they are equal
abbrev pub lesser : Option Runner → Option Runner → Option Runner
lesser None b = b
lesser (Some a) None = Some a
lesser (Some a) (Some b) = if goes_before b a then Some b else Some a

-- the least of the streams 1 to k that can run
abbrev pub least : List Seat → Core → ℕ → Option Runner
least seats core zero = None
least seats core (suc k) = lesser (least seats core k) (candidate (seat_of seats (suc k)) core (suc k))

-- the stream that runs next: the least of all that can run
abbrev pub least_runnable : List Seat → Core → Option ℕ
least_runnable seats core = option_map (λ (r : Runner). r.stream) (least seats core (length seats))

-- stream s can run, and no stream that can run goes before it
pub record IsChoice (seats : List Seat) (core : Core) (s : ℕ) : Type 0 where
  pub known : IsKnown (length seats) s
  pub runs : can_run (seat_of seats s) core s ≡ true
  pub first : (t : ℕ) → IsKnown (length seats) t → can_run (seat_of seats t) core t ≡ true → goes_before (runner_of (seat_of seats t) core t) (runner_of (seat_of seats s) core s) ≡ false

-- no stream can run
abbrev pub NoneCanRun : List Seat → Core → Type 0
NoneCanRun seats core = (t : ℕ) → IsKnown (length seats) t → can_run (seat_of seats t) core t ≡ false

-- no stream has an unprocessed number
abbrev pub NothingLeft : Core → Type 0
NothingLeft core = (t : ℕ) → unprocessed_of core t ≡ []
