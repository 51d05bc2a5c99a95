use Rattle.std.proofs.Common.{◌≡◌, ◌++◌, length}
use Rattle.live_view.specs.Copies.{published, steps_pending}
use Rattle.live_view.specs.Steps.{ops_of}
use Rattle.live_view.proofs.copies.hand_over.Given as goal

abbrev pub invariant-loop-drawn : goal.invariant-loop-drawn
invariant-loop-drawn l = record {
  published : published l.copies ≡ published l.fn.copies;
  noted : ops_of (steps_pending l.copies) ++ l.waiting.items ≡ ops_of (steps_pending l.fn.copies) ++ l.fn.waiting.items;
}

abbrev pub decreases-loop-drawn : goal.decreases-loop-drawn
decreases-loop-drawn l = length l.waiting.items
