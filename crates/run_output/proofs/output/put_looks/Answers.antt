use Rattle.std.proofs.Common.{◌≡◌, ◌<◌, ◌+◌, List, ℕ, length, ap, sym, ◌∙◌, arith}
use Rattle.std.specs.Prelude.{Vec}
use Rattle.std.specs.List.{flat_map}
use Rattle.std.specs.declared.alloc.Global.{Global}
use Rattle.std.proofs.Math.Seq.{take-length}
use Rattle.live_view.specs.declared.look.Look.{Look}
use Rattle.run_output.specs.Parts.{view_texts, look_text}
use Rattle.run_output.proofs.Pieces.{line_put, line_failed}
use Rattle.journal_text.proofs.Parts.{concat-map}
use Rattle.run_output.proofs.Texts.{looks_at, length-view_texts}
use Rattle.run_output.proofs.output.put_looks.Goals as goal

pub returns-in_err-put_all : goal.returns-in_err-put_all
returns-in_err-put_all g c =
    let looks : List (Vec Look Global) = c.args.looks.now in
    let i : ℕ = c.loop-index.index in
    let lt : i < length looks = omega arith in
    let shown = c.as_slice.ensures.value ∙ ap (λ (own : Vec Look Global). own.items) c.index-looks-index.is in
    let text = concat-map (look_text (i + 1)) c.as_slice.result.now ∙ ap (λ (own : List Look). flat_map (look_text (i + 1)) own) shown ∙ sym (looks_at 1 looks i c.index-looks-index.result lt) in
    line_failed _ _ _ _ _ _ _ _ _ (view_texts 1 looks) i _ _ _ (omega (arith, length-view_texts 1 looks)) c.from_residual.ensures.0 c.loop-index.invariant (rw text at c.in_err-put_all.ensures.puts)

pub loop-index-preserved : goal.loop-index-preserved
loop-index-preserved g c =
    let looks : List (Vec Look Global) = c.args.looks.now in
    let i : ℕ = c.loop-index.index in
    let lt : i < length looks = omega arith in
    let shown = c.as_slice.ensures.value ∙ ap (λ (own : Vec Look Global). own.items) c.index-looks-index.is in
    let text = concat-map (look_text (i + 1)) c.as_slice.result.now ∙ ap (λ (own : List Look). flat_map (look_text (i + 1)) own) shown ∙ sym (looks_at 1 looks i c.index-looks-index.result lt) in
    line_put _ _ _ _ _ _ _ _ (view_texts 1 looks) i _ _ (omega (arith, length-view_texts 1 looks)) c.loop-index.invariant (rw text at c.in_ok-put_all.ensures.puts)

pub returns : goal.returns
returns g c =
    let looks : List (Vec Look Global) = c.args.looks.now in
    let whole : c.loop-index.index ≡ length (view_texts 1 looks) = omega (arith, length-view_texts 1 looks) in
    rw (sym (take-length (view_texts 1 looks)), sym whole) c.loop-index.invariant
