use Rattle.gpu_store.proofs.image.Image.size.Goals as goal

pub returns-clause-whole : goal.returns-clause-whole
returns-clause-whole c = rw (← c.self.view_is) c.self.invariant.whole
