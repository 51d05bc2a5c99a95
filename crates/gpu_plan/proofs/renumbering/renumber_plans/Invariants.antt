use Rattle.std.proofs.Common.{◌≡◌}
use Rattle.gpu_plan.specs.Renumbered.{renumbered_plan}
use Rattle.gpu_plan.proofs.Partly.{partly}
use Rattle.gpu_plan.proofs.renumbering.renumber_plans.Given as goal

abbrev pub invariant-loop-plan : goal.invariant-loop-plan
invariant-loop-plan l = l.plans ≡ partly (renumbered_plan l.numbers) l.plan-index l.fn.plans
