use Rattle.std.proofs.Common.{◌≡◌, take}
use Rattle.gpu_plan.proofs.plan.Plan.clone_actions.Given as goal

abbrev pub invariant-loop-place : goal.invariant-loop-place
invariant-loop-place l = l.actions.items ≡ take l.place l.self.actions
