use Rattle.std.proofs.Common.{◌≡◌, ◌≤◌, ◌-◌, length, true}
use Rattle.gpu_plan.specs.Plans.{plan_of}
use Rattle.gpu_journal.specs.Serial.{stays}
use Rattle.gpu_run.specs.Clients.{done_at}
use Rattle.gpu_run.specs.Stands.{Acting, Stands}
use Rattle.gpu_run.proofs.act.act_on.Given as goal

abbrev pub invariant-loop : goal.invariant-loop
invariant-loop g l = record {
  stands : Stands (Acting (l.stream - 1)) g.N.Naming.plans l.house l.clients;
  open_still : stays g.N.Naming.plans l.house.core.past l.stream ≡ true;
  longer : length l.initial.house.core.past ≤ length l.house.core.past;
}

abbrev pub decreases-loop : goal.decreases-loop
decreases-loop g l = length (plan_of g.N.Naming.plans l.stream).actions - done_at l.clients l.stream
