use Rattle.gpu_store.proofs.Painting.{drawn_view, rows_lent, from_origin}
use Rattle.gpu_store.proofs.image.Image.upload.Goals as goal

pub put-requires-clause-rows : goal.put-requires-clause-rows
put-requires-clause-rows c =
    rows_lent c.self.inside.width c.self.inside.height c.self.inside.texels c.args.self.now c.args.rect _ c.self.view_is c.requires.fits c.self.invariant.whole

pub returns : goal.returns
returns c =
    drawn_view c.self.inside.width c.self.inside.height c.self.inside.texels c.put.new.self c.args.self.now c.args.rect _ _
    c.self.view_is c.self.invariant.whole (λ x y. from_origin c.args.texels.now c.args.rect.w x y) c.put.ensures
