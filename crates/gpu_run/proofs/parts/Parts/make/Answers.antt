use Rattle.std.proofs.Common.{List, take, subst}
use Rattle.gpu_plan.specs.Plans.{PlanData}
use Rattle.gpu_run.specs.Making.{AreFreshFor}
use Rattle.gpu_run.proofs.Starting.{take_plan}
use Rattle.gpu_run.proofs.parts.Parts.make.Goals as goal

pub loop-done-preserved : goal.loop-done-preserved
loop-done-preserved c =
    let plans = c.args.plans.now.plans in
    subst (λ (row : List PlanData). AreFreshFor row c.push.new.self) (take_plan plans c.loop-done.done c.plan.result.now c.plan.ensures) (c.in_ok-push.ensures (take c.loop-done.done plans) c.loop-done.invariant)
