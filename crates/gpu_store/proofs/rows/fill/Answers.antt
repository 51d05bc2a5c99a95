use Rattle.std.proofs.Common.{arith, refl, ◌+◌}
use Rattle.gpu_store.proofs.Drawing.{row_end, row_below}
use Rattle.gpu_store.proofs.rows.fill.Goals as goal

pub fill_row-requires : goal.fill_row-requires
fill_row-requires c =
    row_end c.loop-row.row c.args.width c.args.rect.x c.args.rect.w (c.args.rect.y + c.args.rect.h) _ (omega arith) c.requires.columns (omega arith)

pub loop-row-preserved : goal.loop-row-preserved
loop-row-preserved c =
    row_below c.args.width c.args.rect _ c.args.rect.y c.loop-row.row _ c.args.texels.now c.loop-row.texels c.fill_row.new.texels c.requires.columns (omega arith) (λ i lt. refl) c.loop-row.invariant c.fill_row.ensures

pub overflow_mul-row : goal.overflow_mul-row
overflow_mul-row c = omega (arith, row_end c.loop-row.row c.args.width c.args.rect.x c.args.rect.w (c.args.rect.y + c.args.rect.h) _ (omega arith) c.requires.columns c.requires.rows)

pub overflow_add-row : goal.overflow_add-row
overflow_add-row c = omega (arith, row_end c.loop-row.row c.args.width c.args.rect.x c.args.rect.w (c.args.rect.y + c.args.rect.h) _ (omega arith) c.requires.columns c.requires.rows)
