use Rattle.std.proofs.Common.{◌≡◌}
use Rattle.flush_queue.specs.Clients.{HasPostedAll}
use Rattle.part_tests.proofs.tests.posting.post_all.Given as goal

abbrev pub invariant-loop-posted : goal.invariant-loop-posted
invariant-loop-posted g l = (l.words ≡ l.client.table) × (l.queue ≡ l.poster.queue) × HasPostedAll l.client l.poster
