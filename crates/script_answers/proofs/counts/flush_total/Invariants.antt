use Rattle.std.proofs.Common.{◌≡◌, take}
use Rattle.std.specs.List.{sum_by, count_by}
use Rattle.gpu_plan.specs.Plans.{PlanData, is_flush}
use Rattle.script_answers.proofs.counts.flush_total.Given as goal

abbrev pub invariant-loop-stream : goal.invariant-loop-stream
invariant-loop-stream l = l.total ≡ sum_by (λ (plan : PlanData). count_by is_flush plan.actions) (take l.stream l.plans.plans)
