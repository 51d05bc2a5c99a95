use Rattle.std.proofs.Common.{◌≡◌}
use Rattle.seq_sched.specs.Choice.{least}
use Rattle.seq_sched.proofs.scheduler.Scheduler.pick.Given as goal

abbrev pub invariant-loop-i : goal.invariant-loop-i
invariant-loop-i l = l.least ≡ least l.self l.core l.i
