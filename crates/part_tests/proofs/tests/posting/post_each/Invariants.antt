use Rattle.std.proofs.Common.{◌≡◌, ◌+◌}
use Rattle.flush_queue.specs.Clients.{HasPostedAll}
use Rattle.part_tests.proofs.tests.posting.post_each.Given as goal

abbrev pub invariant-loop : goal.invariant-loop
invariant-loop g l = (l.words ≡ l.client.table) × (l.queue ≡ l.poster.queue) × HasPostedAll l.client l.poster × (l.poster.count ≡ l.fn.poster.count + l.counter)
