use Rattle.std.proofs.Common.{◌+◌, ◌-◌, arith, refl, inl}
use Rattle.gpu_store.proofs.Drawing.{row_end, source_end, row_above, unread, same_rows}
use Rattle.gpu_store.proofs.rows.shift_down.Goals as goal

pub move_row-requires-clause-target : goal.move_row-requires-clause-target
move_row-requires-clause-target c =
    row_end (c.loop-row.row - 1) c.args.width c.args.rect.x c.args.rect.w (c.args.rect.y + c.args.rect.h) _ (omega arith) c.requires.columns (omega arith)

pub loop-row-preserved : goal.loop-row-preserved
loop-row-preserved c = (
  omega arith,
  row_above c.args.width c.args.rect _ (c.loop-row.row - 1) (c.args.rect.y + c.args.rect.h) _ c.args.texels.now c.loop-row.texels c.move_row.new.texels c.requires.columns (omega arith)
      (λ i lt. unread c.args.width c.args.rect _ c.loop-row.row (c.args.rect.y + c.args.rect.h) c.args.texels.now c.loop-row.texels c.args.sx _ i c.loop-row.invariant.1 (omega arith)
      (source_end c.args.width c.args.sx c.args.sy c.args.rect.w c.args.rect.h c.args.rect.y (c.loop-row.row - 1) _ c.requires.source_columns c.requires.source_rows (omega arith) (omega arith))
      (inl (omega arith)))
      (same_rows c.args.width c.args.rect _ c.loop-row.row _ (c.loop-row.row - 1 + 1) _ c.args.texels.now c.loop-row.texels (omega arith) refl c.loop-row.invariant.1)
      c.move_row.ensures,
)

pub returns : goal.returns
returns c = same_rows c.args.width c.args.rect _ c.loop-row.row _ _ _ c.args.texels.now c.loop-row.texels (omega arith) refl c.loop-row.invariant.1

pub overflow_mul-from : goal.overflow_mul-from
overflow_mul-from c = omega (arith, source_end c.args.width c.args.sx c.args.sy c.args.rect.w c.args.rect.h c.args.rect.y (c.loop-row.row - 1) _ c.requires.source_columns c.requires.source_rows (omega arith) (omega arith))

pub overflow_add-from-in-loop-row : goal.overflow_add-from-in-loop-row
overflow_add-from-in-loop-row c = omega (arith, source_end c.args.width c.args.sx c.args.sy c.args.rect.w c.args.rect.h c.args.rect.y (c.loop-row.row - 1) _ c.requires.source_columns c.requires.source_rows (omega arith) (omega arith))

pub overflow_mul-row : goal.overflow_mul-row
overflow_mul-row c = omega (arith, row_end (c.loop-row.row - 1) c.args.width c.args.rect.x c.args.rect.w (c.args.rect.y + c.args.rect.h) _ (omega arith) c.requires.columns c.requires.rows)

pub overflow_add-row : goal.overflow_add-row
overflow_add-row c = omega (arith, row_end (c.loop-row.row - 1) c.args.width c.args.rect.x c.args.rect.w (c.args.rect.y + c.args.rect.h) _ (omega arith) c.requires.columns c.requires.rows)
