use Rattle.std.proofs.Common.{◌≡◌, ◌<◌, ◌+◌, List, ℕ, length, ap, sym, ◌∙◌, arith}
use Rattle.std.specs.List.{flat_map}
use Rattle.std.proofs.Math.Seq.{take-length}
use Rattle.run_output.specs.Parts.{dump_texts, dump_read_text}
use Rattle.run_output.proofs.Pieces.{line_put, line_failed}
use Rattle.journal_text.proofs.Parts.{concat-map}
use Rattle.run_output.proofs.Texts.{dumps_at, length-dump_texts}
use Rattle.run_output.proofs.output.put_dumps.Goals as goal

pub returns-in_err-put_all : goal.returns-in_err-put_all
returns-in_err-put_all g c =
    let dumps : List (List (ℕ × ℕ × ℕ)) = c.args.dumps.now in
    let i : ℕ = c.loop-index.index in
    let lt : i < length dumps = omega arith in
    let shown = c.as_slice.ensures ∙ c.index-dumps-index.is in
    let text = concat-map (dump_read_text (i + 1)) c.as_slice.result.now ∙ ap (λ (own : List (ℕ × ℕ × ℕ)). flat_map (dump_read_text (i + 1)) own) shown ∙ sym (dumps_at 1 dumps i c.index-dumps-index.result lt) in
    line_failed _ _ _ _ _ _ _ _ _ (dump_texts 1 dumps) i _ _ _ (omega (arith, length-dump_texts 1 dumps)) c.from_residual.ensures.0 c.loop-index.invariant (rw text at c.in_err-put_all.ensures.puts)

pub loop-index-preserved : goal.loop-index-preserved
loop-index-preserved g c =
    let dumps : List (List (ℕ × ℕ × ℕ)) = c.args.dumps.now in
    let i : ℕ = c.loop-index.index in
    let lt : i < length dumps = omega arith in
    let shown = c.as_slice.ensures ∙ c.index-dumps-index.is in
    let text = concat-map (dump_read_text (i + 1)) c.as_slice.result.now ∙ ap (λ (own : List (ℕ × ℕ × ℕ)). flat_map (dump_read_text (i + 1)) own) shown ∙ sym (dumps_at 1 dumps i c.index-dumps-index.result lt) in
    line_put _ _ _ _ _ _ _ _ (dump_texts 1 dumps) i _ _ (omega (arith, length-dump_texts 1 dumps)) c.loop-index.invariant (rw text at c.in_ok-put_all.ensures.puts)

pub returns : goal.returns
returns g c =
    let dumps : List (List (ℕ × ℕ × ℕ)) = c.args.dumps.now in
    let whole : c.loop-index.index ≡ length (dump_texts 1 dumps) = omega (arith, length-dump_texts 1 dumps) in
    rw (sym (take-length (dump_texts 1 dumps)), sym whole) c.loop-index.invariant
