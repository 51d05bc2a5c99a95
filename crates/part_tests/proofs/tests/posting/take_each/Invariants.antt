use Rattle.std.proofs.Common.{◌≡◌}
use Rattle.part_tests.proofs.tests.posting.take_each.Given as goal

abbrev pub invariant-loop : goal.invariant-loop
invariant-loop g l = l.queue ≡ l.taker.queue
