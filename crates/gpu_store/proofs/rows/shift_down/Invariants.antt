use Rattle.std.proofs.Common.{◌+◌, ◌*◌, ◌≤◌, slice_index}
use Rattle.gpu_store.specs.Rows.{IsDrawn}
use Rattle.gpu_store.proofs.rows.shift_down.Given as goal

abbrev pub invariant-loop-row : goal.invariant-loop-row
invariant-loop-row l = (l.top ≤ l.row) × IsDrawn l.width l.rect (λ x y. slice_index l.fn.texels ((l.sy + y) * l.width + (l.sx + x))) l.row (l.top + l.rect.h) l.fn.texels l.texels
