use Rattle.std.proofs.Common.{◌∙◌}
use Rattle.gpu_plan.proofs.Fencing.{rise_here}
use Rattle.gpu_plan.proofs.plan.Plan.fences.Goals as goal

pub noted_at-requires : goal.noted_at-requires
noted_at-requires c = rise_here c.deref.result.now c.self.inside.actions.items (c.deref.ensures.value ∙ c.self.invariant.3)
