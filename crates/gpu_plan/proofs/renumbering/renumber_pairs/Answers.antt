use Rattle.std.proofs.Common.{ℕ, ap, arith, get_or}
use Rattle.gpu_plan.specs.Renumbered.{renumbered_fence}
use Rattle.gpu_plan.proofs.Partly.{partly_goes, partly_done}
use Rattle.gpu_plan.proofs.renumbering.renumber_pairs.Goals as goal

pub loop-pair-preserved : goal.loop-pair-preserved
loop-pair-preserved c =
    partly_goes (renumbered_fence c.args.numbers.now) c.args.pairs.now c.loop-pair.pairs c.loop-pair.pair-index (0, 0) _ c.loop-pair.invariant (omega arith)
    (ap (λ (number : ℕ). (number, (get_or c.loop-pair.pairs c.loop-pair.pair-index (0, 0)).1)) c.number_at-pair.ensures)

pub returns : goal.returns
returns c = partly_done (renumbered_fence c.args.numbers.now) c.args.pairs.now c.loop-pair.pairs c.loop-pair.pair-index c.loop-pair.invariant (omega arith)
