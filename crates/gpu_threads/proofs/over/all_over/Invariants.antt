use Rattle.std.proofs.Common.{◌-◌}
use Rattle.gpu_threads.specs.Over.{AreOver}
use Rattle.gpu_threads.proofs.over.all_over.Given as goal

abbrev pub invariant-loop-stream : goal.invariant-loop-stream
invariant-loop-stream g l = AreOver g.N.Naming.plans l.hall.past (l.stream - 1)
