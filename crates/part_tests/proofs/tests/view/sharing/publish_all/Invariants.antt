use Rattle.std.proofs.Common.{◌++◌}
use Rattle.live_view.specs.Versions.{IsLatest}
use Rattle.part_tests.proofs.tests.view.sharing.publish_all.Given as goal

abbrev pub invariant-loop-events : goal.invariant-loop-events
invariant-loop-events g l = IsLatest (l.writer.versions ++ l.writer.tried) l.events
