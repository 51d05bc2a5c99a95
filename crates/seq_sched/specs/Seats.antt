-- Which streams are at home, and their priorities.
use Rattle.std.specs.Prelude.{◌≡◌, ℕ, ◌-◌, Bool, true, false, List, map, slice_index_or, slice_set, length, zero, suc}
use Rattle.sync_core.specs.Standing.{IsKnown}
use Rattle.seq_sched.specs.declared.seat.Seat.{Seat}

-- a stream that is not there
abbrev pub empty_seat : Seat
empty_seat = record { priority = 0; home = false }

-- the seat of stream s in a row that begins with stream 1
abbrev pub seat_of : List Seat → ℕ → Seat
seat_of seats zero = empty_seat
seat_of seats (suc k) = slice_index_or seats k empty_seat

-- streams of these priorities, all at home
abbrev pub all_home : List ℕ → List Seat
all_home priorities = map (λ p. record { priority = p; home = true }) priorities

-- every stream is at home
abbrev pub AreHome : List Seat → Type 0
AreHome seats = (s : ℕ) → IsKnown (length seats) s → (seat_of seats s).home ≡ true

-- stream s is there, and not at home
pub record IsAway (seats : List Seat) (s : ℕ) : Type 0 where
  pub known : IsKnown (length seats) s
  pub away : (seat_of seats s).home ≡ false

-- the seats after stream s left home or came back
abbrev pub with_home : List Seat → ℕ → Bool → List Seat
with_home seats s home = slice_set seats (s - 1) record { priority = (seat_of seats s).priority; home = home }
