use Rattle.verify_input.proofs.Names.{◌+◌, length, ap, arith, flat_map, err_from_is_err_and, dumps_due, past_of}
use Rattle.verify_input.proofs.Dues.{at_range, range_end, dues_next, taking_none, taking_more, judged_exit, judged_all}
use Rattle.verify_input.proofs.sections.take_dumps.Goals as goal

pub loop-index-init : goal.loop-index-init
loop-index-init c = taking_none

pub returns-in_err-take_dumps_in : goal.returns-in_err-take_dumps_in
returns-in_err-take_dumps_in c =
    let p = c.args.history.plans.now in
    let index = c.loop-index.index in
    judged_exit (err_from_is_err_and c.from_residual.result c.from_residual.ensures.1)
    (dues_next (dumps_due p (past_of c.args.history)) (at_range 1 (length p.plans) index (index + 1) (omega arith) (omega arith))) c.loop-index.invariant c.in_err-take_dumps_in.ensures.err

pub loop-index-preserved : goal.loop-index-preserved
loop-index-preserved c =
    let p = c.args.history.plans.now in
    let index = c.loop-index.index in
    taking_more (dues_next (dumps_due p (past_of c.args.history)) (at_range 1 (length p.plans) index (index + 1) (omega arith) (omega arith))) c.loop-index.invariant c.in_ok-take_dumps_in.ensures.ok

pub returns : goal.returns
returns c =
    let p = c.args.history.plans.now in
    judged_all (ap (flat_map (dumps_due p (past_of c.args.history))) (range_end 1 (length p.plans) c.loop-index.index (omega arith))) c.loop-index.invariant
