use Rattle.std.proofs.Common.{◌≡◌, length, take}
use Rattle.std.specs.List.{sum_by}
use Rattle.gpu_plan.specs.Plans.{PlanData}
use Rattle.script_answers.proofs.counts.action_total.Given as goal

abbrev pub invariant-loop-stream : goal.invariant-loop-stream
invariant-loop-stream l = l.total ≡ sum_by (λ (plan : PlanData). length plan.actions) (take l.stream l.plans.plans)
