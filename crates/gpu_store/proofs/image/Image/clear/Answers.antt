use Rattle.std.proofs.Common.{refl}
use Rattle.gpu_store.proofs.Painting.{drawn_view, rows_lent}
use Rattle.gpu_store.proofs.image.Image.clear.Goals as goal

pub fill-requires-clause-rows : goal.fill-requires-clause-rows
fill-requires-clause-rows c =
    rows_lent c.self.inside.width c.self.inside.height c.self.inside.texels c.args.self.now c.args.rect _ c.self.view_is c.requires c.self.invariant.whole

pub returns : goal.returns
returns c =
    drawn_view c.self.inside.width c.self.inside.height c.self.inside.texels c.fill.new.self c.args.self.now c.args.rect _ _
    c.self.view_is c.self.invariant.whole (λ x y. refl) c.fill.ensures
