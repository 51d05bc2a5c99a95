use Rattle.std.proofs.Common.{◌≡◌}
use Rattle.part_tests.proofs.tests.posting.take_within.Given as goal

abbrev pub invariant-loop : goal.invariant-loop
invariant-loop g l = (l.queue ≡ l.taker.queue) × (l.taker ≡ l.fn.taker)
