use Rattle.gpu_store.proofs.Lookups.{picture_of-number}
use Rattle.gpu_store.proofs.images.Images.id.Goals as goal

pub returns-clause-found : goal.returns-clause-found
returns-clause-found c =
    picture_of-number c.args.self.now c.args.index c.number_at.result c.number_at.ensures.sorted c.number_at.ensures.number
