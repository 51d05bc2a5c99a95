-- How many events a serial history has.
use Rattle.std.proofs.Common.{ℕ, zero, suc, ◌≤◌, Option, Some, None, List, length, arith}
use Rattle.gpu_plan.specs.Plans.{PlansData}
use Rattle.gpu_journal.specs.declared.event.Event.{Event}
use Rattle.gpu_journal.specs.Serial.{next, grown, events, most_events, serial}
use Rattle.script_laws.specs.Laws.{SerialIsShort}

-- each turn adds one event at most
grown_short : (h : List Event) (o : Option Event) (n : ℕ) → length h ≤ n → length (grown h o) ≤ suc n
grown_short h None n few = omega arith
grown_short h (Some e) n few = omega arith

events_short : (p : PlansData) (n : ℕ) → length (events p n) ≤ n
unfolding events
events_short p zero = omega arith
events_short p (suc n) = grown_short (events p n) (next p (events p n)) n (events_short p n)

pub serial_is_short : SerialIsShort
unfolding serial
serial_is_short p = events_short p (most_events p)
