use Rattle.std.proofs.Common.{sym, ◌∙◌, arith}
use Rattle.gpu_store.specs.Images.{picture_of}
use Rattle.gpu_store.proofs.Totals.{rows_more, image_done}
use Rattle.gpu_store.proofs.sums.with_image.Goals as goal

pub loop-y-preserved : goal.loop-y-preserved
loop-y-preserved c = rows_more (picture_of c.args.images.now c.args.image) c.args.before c.loop-y.total c.with_row-total.result c.loop-y.y c.row.result.now c.row.ensures.row c.with_row-total.ensures c.loop-y.invariant

pub returns : goal.returns
returns c = image_done (picture_of c.args.images.now c.args.image) c.args.before c.loop-y.total c.unwrap-height.result.0 c.unwrap-height.result.1 c.loop-y.y c.size.ensures.whole (sym c.size.ensures.size ∙ c.unwrap-height.ensures) (omega arith) c.loop-y.invariant
