use Rattle.std.proofs.Common.{◌+◌}
use Rattle.gpu_store.specs.Picture.{rectangle}
use Rattle.gpu_store.proofs.Painting.{drawn_view, rows_lent, stored_texel}
use Rattle.gpu_store.proofs.image.Image.shift.Goals as goal

pub shift-requires-clause-rows : goal.shift-requires-clause-rows
shift-requires-clause-rows c =
    rows_lent c.self.inside.width c.self.inside.height c.self.inside.texels c.args.self.now c.args.rect _ c.self.view_is c.requires.fits c.self.invariant.whole

pub shift-requires-clause-source_rows : goal.shift-requires-clause-source_rows
shift-requires-clause-source_rows c =
    rows_lent c.self.inside.width c.self.inside.height c.self.inside.texels c.args.self.now (rectangle c.args.sx c.args.sy c.args.rect.w c.args.rect.h) _ c.self.view_is c.requires.source_fits c.self.invariant.whole

pub returns : goal.returns
returns c =
    drawn_view c.self.inside.width c.self.inside.height c.self.inside.texels c.shift.new.self c.args.self.now c.args.rect _ _
    c.self.view_is c.self.invariant.whole
    (λ x y. stored_texel c.self.inside.width c.self.inside.height c.self.inside.texels c.args.self.now (c.args.sx + x) (c.args.sy + y) c.self.view_is) c.shift.ensures
