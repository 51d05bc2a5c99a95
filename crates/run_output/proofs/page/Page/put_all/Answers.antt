use Rattle.std.proofs.Common.{arith, ◌∙◌}
use Rattle.run_output.proofs.Pieces.{line_put, line_failed, line_below}
use Rattle.run_output.proofs.page.Page.put_all.Goals as goal

pub returns-in_err-put-clause-puts : goal.returns-in_err-put-clause-puts
returns-in_err-put-clause-puts g c =
    line_failed _ _ _ _ _ _ _ _ _ (g.L.Lines.lines c.args.lines.now) c.loop-index.index _ _ _ (omega arith) c.from_residual.ensures.0 c.loop-index.invariant.put c.in_err-put.ensures.puts

pub returns-in_err-put-clause-below : goal.returns-in_err-put-clause-below
returns-in_err-put-clause-below g c = λ all.
    let less = line_below _ _ _ _ _ _ (g.L.Lines.lines c.args.lines.now) c.loop-index.index _ _ (omega arith) c.loop-index.invariant.put all in
    let limit = c.loop-index.invariant.limit in
    c.in_err-put.ensures.below (omega (arith, less, limit)) ∙ c.loop-index.invariant.below all

pub loop-index-preserved : goal.loop-index-preserved
loop-index-preserved g c = record {
  put = line_put _ _ _ _ _ _ _ _ (g.L.Lines.lines c.args.lines.now) c.loop-index.index _ _ (omega arith) c.loop-index.invariant.put c.in_ok-put.ensures.puts;
  below = λ all.
      let less = line_below _ _ _ _ _ _ (g.L.Lines.lines c.args.lines.now) c.loop-index.index _ _ (omega arith) c.loop-index.invariant.put all in
      let limit = c.loop-index.invariant.limit in
      c.in_ok-put.ensures.below (omega (arith, less, limit)) ∙ c.loop-index.invariant.below all;
  limit = c.in_ok-put.ensures.limit ∙ c.loop-index.invariant.limit;
}
