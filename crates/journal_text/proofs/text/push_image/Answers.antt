use Rattle.std.proofs.Common.{List, ℕ, ◌++◌, ap, sym, ◌∙◌, arith}
use Rattle.gpu_store.specs.Images.{picture_of}
use Rattle.journal_text.specs.Picture.{row_text}
use Rattle.journal_text.proofs.Rows.{rows_more, image_done}
use Rattle.journal_text.proofs.text.push_image.Goals as goal

pub loop-y-preserved : goal.loop-y-preserved
loop-y-preserved c = rows_more (picture_of c.args.images.now c.args.image) c.args.image c.loop-y.y c.args.out.now.items c.loop-y.out.items c.put_row.new.out.items c.row-row.result.now c.row-row.ensures.row (c.put_row.ensures.items ∙ ap (λ (text : List ℕ). text ++ row_text c.row-row.result.now) c.reserve-in-loop-y.ensures.items) c.loop-y.invariant

pub returns : goal.returns
returns c = image_done (picture_of c.args.images.now c.args.image) c.args.image c.unwrap-width.result.0 c.unwrap-width.result.1 c.loop-y.y c.args.out.now.items c.loop-y.out.items (sym c.size.ensures.size ∙ c.unwrap-width.ensures) (omega arith) c.loop-y.invariant
