use Rattle.std.proofs.Common.{◌≡◌, ◌<◌, ◌-◌, ◌⊎◌, length, false}
use Rattle.gpu_journal.specs.Serial.{begins_round, runner, choice, IsPlayed, most_events}
use Rattle.gpu_run.specs.Clients.{done_at}
use Rattle.gpu_run.specs.Reading.{HaveRead}
use Rattle.gpu_run.specs.Rounds.{IsRunning}
use Rattle.gpu_run.specs.Served.{IsServed}
use Rattle.gpu_run.proofs.running.run_all.Given as goal

abbrev pub invariant-loop-run : goal.invariant-loop-run
invariant-loop-run g l = record {
  played : IsPlayed g.N.Naming.plans l.house.core.past;
  served : IsServed g.N.Naming.plans l.house l.clients;
  read : HaveRead g.N.Naming.plans l.house.core.past l.clients;
  running : begins_round g.N.Naming.plans l.house.core.past ≡ false → IsRunning g.N.Naming.plans l.house.core.past (done_at l.clients);
  chosen : runner g.N.Naming.plans l.house.core.past ≡ choice g.N.Naming.plans l.house.core.past;
  moved : (l.house.core.past ≡ l.initial.house.core.past) ⊎ (length l.initial.house.core.past < length l.house.core.past);
}

abbrev pub decreases-loop-run : goal.decreases-loop-run
decreases-loop-run g l = most_events g.N.Naming.plans - length l.house.core.past
