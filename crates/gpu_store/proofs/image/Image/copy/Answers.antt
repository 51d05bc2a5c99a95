use Rattle.std.proofs.Common.{◌+◌}
use Rattle.gpu_store.specs.Picture.{rectangle}
use Rattle.gpu_store.proofs.Painting.{drawn_view, rows_lent, stored_texel}
use Rattle.gpu_store.proofs.image.Image.copy.Goals as goal

pub copy-requires-clause-rows : goal.copy-requires-clause-rows
copy-requires-clause-rows c =
    rows_lent c.self.inside.width c.self.inside.height c.self.inside.texels c.args.self.now c.args.rect _ c.self.view_is c.requires.fits c.self.invariant.whole

pub copy-requires-clause-source_rows : goal.copy-requires-clause-source_rows
copy-requires-clause-source_rows c =
    rows_lent c.source.inside.width c.source.inside.height c.source.inside.texels c.args.source.now (rectangle c.args.sx c.args.sy c.args.rect.w c.args.rect.h) _ c.source.view_is c.requires.source_fits c.source.invariant.whole

pub returns : goal.returns
returns c =
    drawn_view c.self.inside.width c.self.inside.height c.self.inside.texels c.copy.new.self c.args.self.now c.args.rect _ _
    c.self.view_is c.self.invariant.whole
    (λ x y. stored_texel c.source.inside.width c.source.inside.height c.source.inside.texels c.args.source.now (c.args.sx + x) (c.args.sy + y) c.source.view_is) c.copy.ensures
