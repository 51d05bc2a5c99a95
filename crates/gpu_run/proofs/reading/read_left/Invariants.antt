use Rattle.std.proofs.Common.{◌≡◌, ◌-◌, ◌++◌, length}
use Rattle.stream_state.specs.State.{result_of}
use Rattle.gpu_run.specs.Reading.{read_left}
use Rattle.gpu_run.proofs.reading.read_left.Given as goal

-- the part read and the rest are the same in all
abbrev pub invariant-loop-dump : goal.invariant-loop-dump
invariant-loop-dump l = l.dumps ++ read_left l.planned l.dumps (result_of l.state) ≡ l.initial.dumps ++ read_left l.planned l.initial.dumps (result_of l.state)

abbrev pub decreases-loop-dump : goal.decreases-loop-dump
decreases-loop-dump l = length l.planned - length l.dumps
