use Rattle.std.proofs.Common.{arith}
use Rattle.gpu_plan.specs.Renumbered.{renumbered_plan}
use Rattle.gpu_plan.proofs.Partly.{partly_goes, partly_done}
use Rattle.gpu_plan.proofs.renumbering.renumber_plans.Goals as goal

pub loop-plan-preserved : goal.loop-plan-preserved
loop-plan-preserved c =
    partly_goes (renumbered_plan c.args.numbers.now) c.args.plans.now c.loop-plan.plans c.loop-plan.plan-index c.plan-item.result c.renumber.new.self c.loop-plan.invariant (omega arith) c.renumber.ensures

pub returns : goal.returns
returns c = partly_done (renumbered_plan c.args.numbers.now) c.args.plans.now c.loop-plan.plans c.loop-plan.plan-index c.loop-plan.invariant (omega arith)
