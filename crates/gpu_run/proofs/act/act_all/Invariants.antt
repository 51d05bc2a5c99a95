use Rattle.std.proofs.Common.{◌≤◌, ◌-◌, length}
use Rattle.gpu_run.specs.Stands.{Acting, Stands}
use Rattle.gpu_run.proofs.act.act_all.Given as goal

abbrev pub invariant-loop-stream : goal.invariant-loop-stream
invariant-loop-stream g l = record {
  stands : Stands (Acting (l.stream - 1)) g.N.Naming.plans l.house l.clients;
  longer : length l.initial.house.core.past ≤ length l.house.core.past;
}
