use Rattle.verify_input.proofs.Names.{◌+◌, ap, arith, flat_map, err_from_is_err_and, looks_due}
use Rattle.verify_input.proofs.Dues.{at_range, range_end, dues_next, taking_none, taking_more, judged_exit, judged_all}
use Rattle.verify_input.proofs.sections.take_viewers.Goals as goal

pub loop-index-init : goal.loop-index-init
loop-index-init c = taking_none

pub returns-in_err-take_viewer : goal.returns-in_err-take_viewer
returns-in_err-take_viewer c =
    let index = c.loop-index.index in
    judged_exit (err_from_is_err_and c.from_residual.result c.from_residual.ensures.1)
    (dues_next looks_due (at_range 1 c.args.viewers index (index + 1) (omega arith) (omega arith))) c.loop-index.invariant c.in_err-take_viewer.ensures.err

pub loop-index-preserved : goal.loop-index-preserved
loop-index-preserved c =
    let index = c.loop-index.index in
    taking_more (dues_next looks_due (at_range 1 c.args.viewers index (index + 1) (omega arith) (omega arith))) c.loop-index.invariant c.in_ok-take_viewer.ensures.ok

pub returns : goal.returns
returns c = judged_all (ap (flat_map looks_due) (range_end 1 c.args.viewers c.loop-index.index (omega arith))) c.loop-index.invariant
