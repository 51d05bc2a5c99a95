use Rattle.gpu_store.proofs.Painting.{blank_view}
use Rattle.gpu_store.proofs.image.Image.make.Goals as goal

pub returns : goal.returns
returns c = blank_view c.args.width c.args.height _ c.in_ok-texels.ensures
