use Rattle.verify_input.proofs.Names.{[], sym, ap, subst, arith, drop_all, All-get_or, err_from_is_err_and, IsLine, same_lines}
use Rattle.verify_input.proofs.Dues.{alone, line_there, taking_none, taking_more, judged_exit, judged_all}
use Rattle.verify_input.proofs.rest.Rest.take_all.Goals as goal

pub loop-index-init : goal.loop-index-init
loop-index-init g c = λ p h. taking_none

pub take-requires : goal.take-requires
take-requires g c = record {
  line = subst IsLine (sym (alone c.bytes.ensures c.make.ensures.bytes c.clear.ensures.bytes)) (All-get_or IsLine (g.L.Lines.lines c.args.lines.now) c.loop-index.index [] (omega arith) c.requires.each);
  other = c.requires.other;
}

pub returns-in_err-take : goal.returns-in_err-take
returns-in_err-take g c = λ p h.
    judged_exit (err_from_is_err_and c.from_residual.result c.from_residual.ensures.1)
    (line_there c.args.what (g.L.Lines.lines c.args.lines.now) c.loop-index.index (omega arith) (alone c.bytes.ensures c.make.ensures.bytes c.clear.ensures.bytes)) (c.loop-index.invariant p h) (c.in_err-take.ensures p h).err

pub loop-index-preserved : goal.loop-index-preserved
loop-index-preserved g c = λ p h.
    taking_more (line_there c.args.what (g.L.Lines.lines c.args.lines.now) c.loop-index.index (omega arith) (alone c.bytes.ensures c.make.ensures.bytes c.clear.ensures.bytes)) (c.loop-index.invariant p h) (c.in_ok-take.ensures p h).ok

pub returns : goal.returns
returns g c = λ p h. judged_all (ap (same_lines c.args.what) (drop_all c.loop-index.index (g.L.Lines.lines c.args.lines.now) (omega arith))) (c.loop-index.invariant p h)
