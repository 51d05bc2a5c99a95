use Rattle.std.proofs.Common.{◌≤◌, ◌-◌, length}
use Rattle.gpu_journal.specs.Serial.{most_events}
use Rattle.gpu_run.specs.Turning.{IsInTurn}
use Rattle.gpu_run.proofs.running.run_out.Given as goal

abbrev pub invariant-loop-house : goal.invariant-loop-house
invariant-loop-house g l = record {
  turn : IsInTurn g.N.Naming.plans l.house l.clients l.out;
  longer : length l.initial.house.core.past ≤ length l.house.core.past;
}

abbrev pub decreases-loop-house : goal.decreases-loop-house
decreases-loop-house g l = most_events g.N.Naming.plans - length l.house.core.past
