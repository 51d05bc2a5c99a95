use Rattle.std.proofs.Common.{◌≡◌, ◌∙◌, ℕ, ◌+◌, ◌*◌, ◌≤◌, List, length, sym, subst, arith}
use Rattle.gpu_store.proofs.Settled.{canvas_drawn, canvas_shows}
use Rattle.gpu_store.proofs.canvas.Canvas.fill.Goals as goal

pub settle-requires-clause-room : goal.settle-requires-clause-room
settle-requires-clause-room c = c.self.invariant.room

pub fill-requires-clause-columns : goal.fill-requires-clause-columns
fill-requires-clause-columns c = c.requires.columns

pub fill-requires-clause-rows : goal.fill-requires-clause-rows
fill-requires-clause-rows c =
    let same : c.deref_mut.result.now ≡ c.args.self.now = c.deref_mut.ensures.value ∙ c.settle.ensures.items ∙ c.self.view_is in
    subst (λ (l : List ℕ). (c.args.rect.y + c.args.rect.h) * c.args.width ≤ length l) (sym same) c.requires.rows

pub invariant_of-self : goal.invariant_of-self
invariant_of-self c =
    let room = c.self.invariant.room in
    canvas_drawn c.self.inside.count c.settle.new.texels.cap c.settle.new.texels.len c.deref_mut.result.now c.fill.new.texels c.settle.new.texels.items
    c.settle.ensures.len c.deref_mut.ensures.len c.fill.ensures.sized (omega (arith, room, c.settle.ensures.capacity))

pub returns : goal.returns
returns c =
    canvas_shows c.self.inside.count c.settle.new.texels.len c.deref_mut.result.now c.fill.new.texels c.settle.new.texels.items c.args.self.now c.args.width c.args.rect
    (λ l x y. c.args.texel) _ _ c.settle.ensures.len c.deref_mut.ensures.len
    (c.deref_mut.ensures.value ∙ c.settle.ensures.items ∙ c.self.view_is) c.fill.ensures
