use Rattle.std.proofs.Common.{arith}
use Rattle.flush_queue.proofs.Posting.{as_many_posted}
use Rattle.part_tests.proofs.tests.posting.post_early.Goals as goal

pub unreachable-requires : goal.unreachable-requires
unreachable-requires g c =
    let full = as_many_posted c.args.poster.now 16 c.in-Err.ensures.full in
    let early = c.requires.early in
    omega (arith, full, early)
