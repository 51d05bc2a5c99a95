use Rattle.verify_input.proofs.Names.{refl, arith, err_from_is_err_and}
use Rattle.verify_input.proofs.Dues.{taking_none, taking_more, judged_exit, judged_all}
use Rattle.verify_input.proofs.Lefts.{looks_next, looks_last}
use Rattle.verify_input.proofs.Telling.{last_taken, last_bad}
use Rattle.verify_input.proofs.sections.take_viewer.Goals as goal

pub loop-look-init : goal.loop-look-init
loop-look-init c = taking_none

pub returns-in_err-least : goal.returns-in_err-least
returns-in_err-least c =
    judged_exit (err_from_is_err_and c.from_residual.result c.from_residual.ensures.1) (looks_next c.args.viewer c.loop-look._look (omega arith)) c.loop-look.invariant c.in_err-least.ensures.err

pub loop-look-preserved : goal.loop-look-preserved
loop-look-preserved c = taking_more (looks_next c.args.viewer c.loop-look._look (omega arith)) c.loop-look.invariant c.in_ok-least.ensures.ok

pub returns-in_err-take_look : goal.returns-in_err-take_look
returns-in_err-take_look c =
    judged_exit (err_from_is_err_and c.from_residual-in_err-take_look.result c.from_residual-in_err-take_look.ensures.1) (looks_last c.args.viewer c.loop-look._look (omega arith)) c.loop-look.invariant
    (last_bad c.count-all.ensures c.in_err-take_look.ensures.err)

pub returns : goal.returns
returns c = judged_all refl (taking_more (looks_last c.args.viewer c.loop-look._look (omega arith)) c.loop-look.invariant (last_taken c.count-all.ensures c.in_ok-take_look.ensures.ok))
