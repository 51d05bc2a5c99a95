use Rattle.std.proofs.Common.{◌≡◌}
use Rattle.part_tests.proofs.tests.words.all_are.Given as goal

abbrev pub invariant-loop : goal.invariant-loop
invariant-loop l = l.words ≡ l.client.table
