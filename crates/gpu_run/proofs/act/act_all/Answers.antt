use Rattle.std.proofs.lemmas.Result.{IfOk-from_err}
use Rattle.gpu_run.proofs.act.act_all.Goals as goal

pub act_on-requires-clause-stands : goal.act_on-requires-clause-stands
act_on-requires-clause-stands g c = c.loop-stream.invariant.stands

pub returns-in_err-act_on-clause-stands : goal.returns-in_err-act_on-clause-stands
returns-in_err-act_on-clause-stands g c = IfOk-from_err c.from_residual.result _ c.from_residual.ensures.0

pub returns-in_err-act_on-clause-longer : goal.returns-in_err-act_on-clause-longer
returns-in_err-act_on-clause-longer g c = IfOk-from_err c.from_residual.result _ c.from_residual.ensures.0

pub returns-clause-longer : goal.returns-clause-longer
returns-clause-longer g c = c.loop-stream.invariant.longer
