use Rattle.std.proofs.Common.{sym, ◌∙◌}
use Rattle.gpu_plan.proofs.Fencing.{bare_stays}
use Rattle.gpu_plan.proofs.plan.Action.renumber.Goals as goal

-- nothing is noted of a flush that has no fences
pub returns-in_default-noted_at : goal.returns-in_default-noted_at
returns-in_default-noted_at c = bare_stays c.args._numbers.now c.args.self.now c.in-Flush.put c.in-Flush.fences c.in-Flush.is (sym c.requires.noted ∙ c.in_default-noted_at.ensures)
