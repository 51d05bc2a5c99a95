use Rattle.std.proofs.Common.{◌≡◌, ◌<◌, ◌≤◌}
use Rattle.gpu_cmd.specs.Lawful.{places_of}
use Rattle.part_tests.proofs.tests.words.serve_all.Given as goal

abbrev pub invariant-loop : goal.invariant-loop
invariant-loop l = (l.words ≡ l.service.table) × (0 < places_of l.service.plan.areas) × (l.told ≤ 200)
