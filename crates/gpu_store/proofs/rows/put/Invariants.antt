use Rattle.std.proofs.Common.{◌+◌, ◌*◌, slice_index}
use Rattle.gpu_store.specs.Rows.{IsDrawn}
use Rattle.gpu_store.proofs.rows.put.Given as goal

abbrev pub invariant-loop-row : goal.invariant-loop-row
invariant-loop-row l = IsDrawn l.width l.rect (λ x y. slice_index l.source ((l.sy + y) * l.source_width + (l.sx + x))) l.top l.row l.fn.texels l.texels
