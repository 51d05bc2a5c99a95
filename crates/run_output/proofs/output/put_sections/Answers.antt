use Rattle.std.proofs.Common.{◌≡◌, ◌<◌, ◌∙◌, ℕ, List, take, ap, subst, arith}
use Rattle.std.specs.Prelude.{Ok, Err}
use Rattle.std.specs.List.{concat}
use Rattle.std.proofs.Math.Seq.{take-length}
use Rattle.gpu_io.specs.declared.failed.Failed.{Failed}
use Rattle.run_output.specs.declared.output.Section.TheVariants.{Names}
use Rattle.run_output.specs.Pieces.{Puts}
use Rattle.run_output.specs.Runs.{OutputData}
use Rattle.run_output.proofs.Pieces.{line_put, line_failed}
use Rattle.run_output.proofs.Texts.{section_texts, section_at, sections_text}
use Rattle.run_output.proofs.output.put_sections.Goals as goal

pub returns-in_err-put_section : goal.returns-in_err-put_section
returns-in_err-put_section g c =
    let run : OutputData = c.args.run.now in
    let i : ℕ = c.loop-index.index in
    let lt : i < 7 = omega arith in
    let cut = subst (λ (text : List ℕ). Puts {T = Unit {0}} {E = Failed} g.K.Sink.written g.K.Sink.faults c.loop-index.sink c.loop-index.page.gathered c.put_section.new.sink c.put_section.new.page.gathered (Err c.in_err-put_section.field-0.0) text) (section_at run i Names lt) c.in_err-put_section.ensures in
    subst (λ (text : List ℕ). Puts {T = Unit {0}} {E = Failed} g.K.Sink.written g.K.Sink.faults c.args.sink.now c.args.page.now.gathered c.put_section.new.sink c.put_section.new.page.gathered c.from_residual.result text) (sections_text run)
    (line_failed _ _ _ _ _ _ _ _ _ (section_texts run) i _ _ _ lt c.from_residual.ensures.0 c.loop-index.invariant cut)

pub loop-index-preserved : goal.loop-index-preserved
loop-index-preserved g c =
    let run : OutputData = c.args.run.now in
    let i : ℕ = c.loop-index.index in
    let lt : i < 7 = omega arith in
    let put = subst (λ (text : List ℕ). Puts {T = Unit {0}} {E = Failed} g.K.Sink.written g.K.Sink.faults c.loop-index.sink c.loop-index.page.gathered c.put_section.new.sink c.put_section.new.page.gathered (Ok c.in_ok-put_section.field-0) text) (section_at run i Names lt) c.in_ok-put_section.ensures in
    line_put _ _ _ _ _ _ _ _ (section_texts run) i _ _ lt c.loop-index.invariant put

pub returns : goal.returns
returns g c =
    let run : OutputData = c.args.run.now in
    let whole : c.loop-index.index ≡ 7 = omega arith in
    let all = ap (λ (n : ℕ). concat (take n (section_texts run))) whole ∙ ap concat (take-length (section_texts run)) ∙ sections_text run in
    subst (λ (text : List ℕ). Puts {T = Unit {0}} {E = Failed} g.K.Sink.written g.K.Sink.faults c.args.sink.now c.args.page.now.gathered c.loop-index.sink c.loop-index.page.gathered (Ok tt) text) all c.loop-index.invariant
