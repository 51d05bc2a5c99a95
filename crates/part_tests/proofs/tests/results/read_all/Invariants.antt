use Rattle.std.proofs.Common.{◌≡◌, ◌≤◌}
use Rattle.part_tests.proofs.tests.results.read_all.Given as goal

abbrev pub invariant-loop : goal.invariant-loop
invariant-loop l = (l.words ≡ l.reader.table) × (l.reader.places ≡ 2) × (l.found ≤ 100000)
