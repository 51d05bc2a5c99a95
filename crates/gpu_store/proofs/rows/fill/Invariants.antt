use Rattle.gpu_store.specs.Rows.{IsDrawn}
use Rattle.gpu_store.proofs.rows.fill.Given as goal

abbrev pub invariant-loop-row : goal.invariant-loop-row
invariant-loop-row l = IsDrawn l.width l.rect (λ x y. l.texel) l.top l.row l.fn.texels l.texels
