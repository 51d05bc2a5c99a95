use Rattle.std.proofs.Common.{◌≡◌, ◌∙◌, ℕ, ◌+◌, ◌*◌, ◌≤◌, List, length, sym, subst, arith, slice_index}
use Rattle.gpu_store.proofs.Settled.{canvas_drawn, canvas_shows}
use Rattle.gpu_store.proofs.canvas.Canvas.put.Goals as goal

pub settle-requires-clause-room : goal.settle-requires-clause-room
settle-requires-clause-room c = c.self.invariant.room

pub put-requires-clause-columns : goal.put-requires-clause-columns
put-requires-clause-columns c = c.requires.columns

pub put-requires-clause-rows : goal.put-requires-clause-rows
put-requires-clause-rows c =
    let same : c.deref_mut.result.now ≡ c.args.self.now = c.deref_mut.ensures.value ∙ c.settle.ensures.items ∙ c.self.view_is in
    subst (λ (l : List ℕ). (c.args.rect.y + c.args.rect.h) * c.args.width ≤ length l) (sym same) c.requires.rows

pub put-requires-clause-source_columns : goal.put-requires-clause-source_columns
put-requires-clause-source_columns c = c.requires.source_columns

pub put-requires-clause-source_rows : goal.put-requires-clause-source_rows
put-requires-clause-source_rows c = c.requires.source_rows

pub invariant_of-self : goal.invariant_of-self
invariant_of-self c =
    let room = c.self.invariant.room in
    canvas_drawn c.self.inside.count c.settle.new.texels.cap c.settle.new.texels.len c.deref_mut.result.now c.put.new.texels c.settle.new.texels.items
    c.settle.ensures.len c.deref_mut.ensures.len c.put.ensures.sized (omega (arith, room, c.settle.ensures.capacity))

pub returns : goal.returns
returns c =
    canvas_shows c.self.inside.count c.settle.new.texels.len c.deref_mut.result.now c.put.new.texels c.settle.new.texels.items c.args.self.now c.args.width c.args.rect
    (λ l x y. slice_index c.args.source.now ((c.args.sy + y) * c.args.source_width + (c.args.sx + x))) _ _ c.settle.ensures.len c.deref_mut.ensures.len
    (c.deref_mut.ensures.value ∙ c.settle.ensures.items ∙ c.self.view_is) c.put.ensures
