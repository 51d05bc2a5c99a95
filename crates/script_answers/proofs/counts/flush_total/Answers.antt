use Rattle.std.proofs.Common.{◌<◌, length, arith}
use Rattle.std.specs.List.{count_by}
use Rattle.gpu_plan.specs.Plans.{PlanData, is_flush}
use Rattle.script_answers.proofs.Totals.{total_more}
use Rattle.script_answers.proofs.counts.flush_total.Goals as goal

pub loop-stream-preserved : goal.loop-stream-preserved
loop-stream-preserved c =
    let there : c.loop-stream.stream < length c.args.plans.now.plans = omega (arith, c.count-count.ensures.count, c.loop-stream-test.true) in
    rw (c.loop-stream.invariant, c.flush_count-total.ensures, c.actions.ensures.value) (total_more (λ (plan : PlanData). count_by is_flush plan.actions) c.args.plans.now.plans c.loop-stream.stream c.plan.result.now there c.plan.ensures)
