-- What the clients of the run on one thread have read.
use Rattle.std.specs.Prelude.{ℕ, List, map}
use Rattle.gpu_plan.specs.Plans.{PlansData}
use Rattle.gpu_journal.specs.declared.event.Event.{Event}
use Rattle.gpu_journal.specs.Ended.{streams_of}
use Rattle.gpu_journal.specs.Written.{result_at}
use Rattle.gpu_journal.specs.Dumps.{dumps_of, passed_at}

-- a dump with what its client found when it passed: the action place, the result place and the value
abbrev pub dump_read : PlansData → List Event → ℕ → ℕ × ℕ → ℕ × ℕ × ℕ
dump_read p h s dump = (dump.0, dump.1, result_at p (passed_at p h s dump.0) s dump.1)

-- all that the client of stream s reads: each of its dumps, or none where it was lost
abbrev pub dumps_read : PlansData → List Event → ℕ → List (ℕ × ℕ × ℕ)
dumps_read p h s = map (dump_read p h s) (dumps_of p h s)

-- of each stream, in order
abbrev pub all_dumps : PlansData → List Event → List (List (ℕ × ℕ × ℕ))
all_dumps p h = map (dumps_read p h) (streams_of p)
