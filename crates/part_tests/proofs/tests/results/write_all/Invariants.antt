use Rattle.std.proofs.Common.{◌≡◌}
use Rattle.part_tests.proofs.tests.results.write_all.Given as goal

abbrev pub invariant-loop-round : goal.invariant-loop-round
invariant-loop-round l = (l.words ≡ l.writer.table) × (l.writer.places ≡ 2)
