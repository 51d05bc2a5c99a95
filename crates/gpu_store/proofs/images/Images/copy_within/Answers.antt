use Rattle.std.proofs.Common.{◌≡◌, ◌∙◌, ◌+◌, arith, sym, ap, Some, rules}
use Rattle.std.proofs.lemmas.Grind.{common_steps}
use Rattle.std.proofs.lemmas.Bool.{and_from}
use Rattle.gpu_store.specs.Picture.{texel_at, texel_count}
use Rattle.gpu_store.specs.Images.{picture_of, replaced}
use Rattle.gpu_store.proofs.Counting.{counted-replaced, texel_count-drawn}
use Rattle.gpu_store.proofs.Steps.{copy-is_done, copy-fits, copy-done}
use Rattle.gpu_store.proofs.images.Images.copy_within.Goals as goal

pub unwrap-requires : goal.unwrap-requires
unwrap-requires c =
    let copies = copy-is_done c.args.self.now c.args.image c.args.sx c.args.sy c.args.image c.args.to.x c.args.to.y c.args.to.w c.args.to.h c.requires in
    let there : picture_of c.args.self.now c.args.image ≡ Some copies.from = copies.source_there in
    grind (arith, common_steps)

pub shift-requires : goal.shift-requires
shift-requires c =
    let there : picture_of c.args.self.now c.args.image ≡ Some c.unwrap.result.now = grind (arith, common_steps) in
    let both = copy-fits c.args.self.now c.args.image c.args.sx c.args.sy c.args.image c.args.to.x c.args.to.y c.args.to.w c.args.to.h c.unwrap.result.now c.unwrap.result.now c.requires there there in
    record { fits = both.1; source_fits = both.0 }

pub invariant_of-self : goal.invariant_of-self
invariant_of-self c =
    let there : picture_of c.self.inside.images.entries c.args.image ≡ Some c.unwrap.result.now = grind (arith, common_steps) in
    counted-replaced c.self.inside.texels c.args.image c.self.inside.images.entries _ c.unwrap.result.now c.shift.new.self c.self.invariant there
    (ap (λ picture. texel_count picture) c.shift.ensures ∙ texel_count-drawn c.unwrap.result.now c.args.to (λ x y. texel_at c.unwrap.result.now (c.args.sx + x) (c.args.sy + y))) (search rules)

pub returns : goal.returns
returns c =
    let there : picture_of c.args.self.now c.args.image ≡ Some c.unwrap.result.now = grind (arith, common_steps) in
    let both = copy-fits c.args.self.now c.args.image c.args.sx c.args.sy c.args.image c.args.to.x c.args.to.y c.args.to.w c.args.to.h c.unwrap.result.now c.unwrap.result.now c.requires there there in
    let written : (c.get_mut.follows.lender c.shift.new.self).entries ≡ replaced c.self.inside.images.entries c.args.image c.shift.new.self = search rules in
    written ∙ ap (λ images. replaced images c.args.image c.shift.new.self) c.self.view_is ∙ ap (replaced c.args.self.now c.args.image) c.shift.ensures
    ∙ sym (ap (λ end. end.images) (copy-done c.args.self.now c.args.image c.args.sx c.args.sy c.args.image c.args.to.x c.args.to.y c.args.to.w c.args.to.h c.unwrap.result.now c.unwrap.result.now there there (and_from _ _ both.0 both.1)))
