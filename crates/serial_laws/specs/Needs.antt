-- How many events of a stream may still need room, whatever its client does.
use Rattle.std.specs.Prelude.{ℕ, zero, suc, ◌+◌, List, length, if◌then◌else◌}
use Rattle.gpu_plan.specs.Plans.{PlansData}
use Rattle.sync_core.specs.Standing.{Standing, is_open}
use Rattle.gpu_journal.specs.declared.event.Event.{Event}
use Rattle.gpu_journal.specs.Waits.{standing_of}

-- a finish of each unprocessed number, and one end where the stream is open
abbrev pub need_of : Standing → ℕ
need_of x = length x.left + (if is_open x then 1 else 0)

-- of stream s
abbrev pub need : PlansData → List Event → ℕ → ℕ
need p h s = need_of (standing_of p h s)

-- of the streams 1 to n together
abbrev pub needs : PlansData → List Event → ℕ → ℕ
needs p h zero = 0
needs p h (suc n) = needs p h n + need p h (suc n)
