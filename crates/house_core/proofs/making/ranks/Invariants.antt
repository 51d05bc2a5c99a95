use Rattle.std.proofs.Common.{◌≡◌, map, take}
use Rattle.gpu_plan.specs.Plans.{PlanData}
use Rattle.gpu_journal.specs.Serial.{rank}
use Rattle.house_core.proofs.making.ranks.Given as goal

abbrev pub invariant-loop-done : goal.invariant-loop-done
invariant-loop-done l = l.ranks.items ≡ map (λ (plan : PlanData). rank plan.priority) (take l.done l.plans.plans)
