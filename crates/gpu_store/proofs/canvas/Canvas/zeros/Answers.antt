use Rattle.std.proofs.Common.{arith}
use Rattle.gpu_store.proofs.Painting.{blank_canvas}
use Rattle.gpu_store.proofs.canvas.Canvas.zeros.Goals as goal

pub returns : goal.returns
returns c = blank_canvas c.args.count _ _ _ (omega arith) c.in_ok-texels.ensures.items c.settle.ensures.items
