use Rattle.std.proofs.Common.{◌<◌, length, arith}
use Rattle.gpu_plan.specs.Plans.{PlanData}
use Rattle.script_answers.proofs.Totals.{total_more}
use Rattle.script_answers.proofs.counts.action_total.Goals as goal

pub loop-stream-preserved : goal.loop-stream-preserved
loop-stream-preserved c =
    let there : c.loop-stream.stream < length c.args.plans.now.plans = omega (arith, c.count-count.ensures.count, c.loop-stream-test.true) in
    rw (c.loop-stream.invariant, c.actions.ensures.value) (total_more (λ (plan : PlanData). length plan.actions) c.args.plans.now.plans c.loop-stream.stream c.plan.result.now there c.plan.ensures)
