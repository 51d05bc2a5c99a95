use Rattle.std.proofs.Common.{arith}
use Rattle.gpu_plan.specs.Renumbered.{renumbered_note}
use Rattle.gpu_plan.proofs.Partly.{partly_goes, partly_done}
use Rattle.gpu_plan.proofs.renumbering.renumber_fenced.Goals as goal

pub loop-noted-preserved : goal.loop-noted-preserved
loop-noted-preserved c =
    partly_goes (renumbered_note c.args.numbers.now) c.args.fenced.now c.loop-noted.fenced c.loop-noted.noted-index c.noted-item.result c.renumber.new.self c.loop-noted.invariant (omega arith) c.renumber.ensures

pub returns : goal.returns
returns c = partly_done (renumbered_note c.args.numbers.now) c.args.fenced.now c.loop-noted.fenced c.loop-noted.noted-index c.loop-noted.invariant (omega arith)
