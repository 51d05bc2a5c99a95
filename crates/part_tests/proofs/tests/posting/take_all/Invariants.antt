use Rattle.std.proofs.Common.{◌≡◌, ◌+◌, ◌<◌}
use Rattle.gpu_cmd.specs.Lawful.{places_of}
use Rattle.part_tests.proofs.tests.posting.take_all.Given as goal

abbrev pub invariant-loop : goal.invariant-loop
invariant-loop g l =
    (l.words ≡ l.service.table) × (0 < places_of l.service.plan.areas) × (l.queue ≡ l.taker.queue) × (l.taker.words ≡ l.service.table)
    × (l.taker.count ≡ l.fn.taker.count + l.taken) × (l.taken ≡ l.counter)
