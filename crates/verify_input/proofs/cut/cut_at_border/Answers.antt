use Rattle.verify_input.proofs.Names.{sym, ◌∙◌}
use Rattle.verify_input.proofs.Borders.{on_none, on_more, cut_all, cut_end}
use Rattle.verify_input.proofs.cut.cut_at_border.Goals as goal

pub loop-line-init : goal.loop-line-init
loop-line-init c = on_none c.args.border c.args.text.now

pub loop-line-preserved : goal.loop-line-preserved
loop-line-preserved c =
    on_more c.args.border c.args.text.now c.loop-line.rest.now c.in-Some.line.now c.in-Some.more.now c.loop-line.lines c.loop-line.invariant c.in-Some.ensures (sym c.is_end.ensures ∙ c.if-is_end.false)

pub returns-then-is_end-clause-cut : goal.returns-then-is_end-clause-cut
returns-then-is_end-clause-cut c =
    cut_end c.args.border c.args.text.now c.loop-line.rest.now c.in-Some.line.now c.split_at.result.0 c.in-Some.more c.loop-line.lines c.loop-line.invariant c.in-Some.ensures (sym c.is_end.ensures ∙ c.if-is_end.true) c.split_at.ensures.front

pub returns-clause-cut : goal.returns-clause-cut
returns-clause-cut c = cut_all c.args.border c.args.text c.loop-line.rest c.loop-line.lines c.loop-line.invariant c.in_default.ensures
