use Rattle.std.proofs.Common.{◌-◌, length}
use Rattle.gpu_journal.specs.Serial.{most_events}
use Rattle.gpu_run.specs.Stands.{Acting, Stands}
use Rattle.gpu_run.proofs.rounds.play.Given as goal

abbrev pub invariant-loop-house : goal.invariant-loop-house
invariant-loop-house g l = Stands (Acting 0) g.N.Naming.plans l.house l.clients

abbrev pub decreases-loop-house : goal.decreases-loop-house
decreases-loop-house g l = most_events g.N.Naming.plans - length l.house.core.past
