use Rattle.std.proofs.Common.{◌≡◌, take}
use Rattle.seq_sched.specs.Seats.{all_home}
use Rattle.seq_sched.proofs.scheduler.Scheduler.make.Given as goal

abbrev pub invariant-loop-priority : goal.invariant-loop-priority
invariant-loop-priority l = l.seats.items ≡ all_home (take l.priority-index l.priorities)
