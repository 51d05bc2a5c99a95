use Rattle.std.proofs.Common.{List, take, subst}
use Rattle.gpu_plan.specs.Plans.{PlanData}
use Rattle.gpu_threads.specs.Making.{HaveDoneNothing}
use Rattle.gpu_threads.proofs.Made.{take_number, take_plan}
use Rattle.gpu_threads.proofs.parts.Parts.make.Goals as goal

pub loop-done-preserved : goal.loop-done-preserved
loop-done-preserved g c =
    let plans = c.args.plans.now.plans in
    let k = c.loop-done.done in
    let plan = c.plan.result.now in
    subst (λ (row : List PlanData). HaveDoneNothing row c.push.new.self) (take_plan plans k plan c.plan.ensures) (c.in_ok-push.ensures (take k plans) (take_number plans k plan c.plan.ensures) c.loop-done.invariant)
