use Rattle.std.proofs.Common.{◌≡◌, ◌<◌}
use Rattle.gpu_plan.specs.Passes.{flushes}
use Rattle.flush_queue.specs.Seen.{note_of}
use Rattle.part_tests.proofs.tests.posting.post_within.Given as goal

abbrev pub invariant-loop : goal.invariant-loop
invariant-loop g l =
    (l.queue ≡ l.poster.queue) × (l.poster ≡ l.fn.poster) × (l.note ≡ note_of l.poster) × (l.poster.count < flushes l.poster.plan.actions)
