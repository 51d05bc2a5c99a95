use Rattle.std.proofs.Common.{◌≡◌, ◌∙◌, ℕ, ◌+◌, ◌*◌, ◌≤◌, List, length, slice_index, sym, subst, arith}
use Rattle.gpu_store.specs.Rows.{IsDrawn}
use Rattle.gpu_store.proofs.Settled.{shows_all}
use Rattle.gpu_store.proofs.canvas.Canvas.copy.Goals as goal

pub put-requires-clause-source_rows : goal.put-requires-clause-source_rows
put-requires-clause-source_rows c =
    let all = shows_all c.source.inside.count c.source.inside.texels.items (omega (arith, c.source.inside.texels.ok.0)) in
    let same : c.deref.result.now ≡ c.args.source.now = c.deref.ensures.value ∙ sym all ∙ c.source.view_is in
    subst (λ (l : List ℕ). (c.args.sy + c.args.rect.h) * c.args.source_width ≤ length l) (sym same) c.requires.source_rows

pub returns : goal.returns
returns c =
    let all = shows_all c.source.inside.count c.source.inside.texels.items (omega (arith, c.source.inside.texels.ok.0)) in
    let same : c.deref.result.now ≡ c.args.source.now = c.deref.ensures.value ∙ sym all ∙ c.source.view_is in
    subst (λ (l : List ℕ). IsDrawn c.args.width c.args.rect (λ x y. slice_index l ((c.args.sy + y) * c.args.source_width + (c.args.sx + x))) c.args.rect.y (c.args.rect.y + c.args.rect.h) c.args.self.now c.put.new.self) same c.put.ensures
