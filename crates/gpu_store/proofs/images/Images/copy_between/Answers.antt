use Rattle.std.proofs.Common.{◌≡◌, ◌∙◌, ◌+◌, arith, sym, ap, Some, rules}
use Rattle.std.proofs.lemmas.Grind.{common_steps}
use Rattle.std.proofs.lemmas.Bool.{and_from}
use Rattle.gpu_store.specs.Picture.{texel_at, texel_count}
use Rattle.gpu_store.specs.Images.{picture_of, replaced}
use Rattle.gpu_store.proofs.Lookups.{picture_of-replaced_other, replaced-replaced}
use Rattle.gpu_store.proofs.Counting.{counted-replaced, texel_count-drawn}
use Rattle.gpu_store.proofs.Steps.{copy-is_done, copy-fits, copy-done}
use Rattle.gpu_store.proofs.images.Images.copy_between.Goals as goal

pub unwrap-requires : goal.unwrap-requires
unwrap-requires c =
    let copies = copy-is_done c.args.self.now c.args.source c.args.sx c.args.sy c.args.target c.args.to.x c.args.to.y c.args.to.w c.args.to.h c.requires.done in
    let there : picture_of c.args.self.now c.args.target ≡ Some copies.to = copies.target_there in
    grind (arith, common_steps)

pub unwrap-requires-2 : goal.unwrap-requires-2
unwrap-requires-2 c =
    let copies = copy-is_done c.args.self.now c.args.source c.args.sx c.args.sy c.args.target c.args.to.x c.args.to.y c.args.to.w c.args.to.h c.requires.done in
    let emptied : (c.get_mut.follows.lender c.replace-drawn.new.dest).entries ≡ replaced c.self.inside.images.entries c.args.target c.replace-drawn.new.dest = search rules in
    let there : picture_of (c.get_mut.follows.lender c.replace-drawn.new.dest).entries c.args.source ≡ Some copies.from =
    ap (λ images. picture_of images c.args.source) emptied ∙ picture_of-replaced_other c.args.target c.args.source c.self.inside.images.entries c.replace-drawn.new.dest (λ same. c.requires.apart (sym same))
    ∙ ap (λ images. picture_of images c.args.source) c.self.view_is ∙ copies.source_there in
    grind (arith, common_steps)

pub copy-requires : goal.copy-requires
copy-requires c =
    let emptied : (c.get_mut.follows.lender c.replace-drawn.new.dest).entries ≡ replaced c.self.inside.images.entries c.args.target c.replace-drawn.new.dest = search rules in
    let found : picture_of (c.get_mut.follows.lender c.replace-drawn.new.dest).entries c.args.source ≡ Some c.unwrap-2.result.now = grind (arith, common_steps) in
    let source_there : picture_of c.args.self.now c.args.source ≡ Some c.unwrap-2.result.now =
    ap (λ images. picture_of images c.args.source) (sym c.self.view_is)
    ∙ sym (picture_of-replaced_other c.args.target c.args.source c.self.inside.images.entries c.replace-drawn.new.dest (λ same. c.requires.apart (sym same)))
    ∙ ap (λ images. picture_of images c.args.source) (sym emptied) ∙ found in
    let target_there : picture_of c.args.self.now c.args.target ≡ Some c.replace-drawn.result = grind (arith, common_steps) in
    let both = copy-fits c.args.self.now c.args.source c.args.sx c.args.sy c.args.target c.args.to.x c.args.to.y c.args.to.w c.args.to.h c.unwrap-2.result.now c.replace-drawn.result c.requires.done source_there target_there in
    record { fits = both.1; source_fits = both.0 }

pub invariant_of-self : goal.invariant_of-self
invariant_of-self c =
    let there : picture_of c.self.inside.images.entries c.args.target ≡ Some c.replace-drawn.result = grind (arith, common_steps) in
    let emptied : (c.get_mut.follows.lender c.replace-drawn.new.dest).entries ≡ replaced c.self.inside.images.entries c.args.target c.replace-drawn.new.dest = search rules in
    let written : (c.get_mut-2.follows.lender c.copy.new.self).entries ≡ replaced (c.get_mut.follows.lender c.replace-drawn.new.dest).entries c.args.target c.copy.new.self = search rules in
    counted-replaced c.self.inside.texels c.args.target c.self.inside.images.entries _ c.replace-drawn.result c.copy.new.self c.self.invariant there
    (ap (λ picture. texel_count picture) c.copy.ensures ∙ texel_count-drawn c.replace-drawn.result c.args.to (λ x y. texel_at c.unwrap-2.result.now (c.args.sx + x) (c.args.sy + y)))
    (written ∙ ap (λ images. replaced images c.args.target c.copy.new.self) emptied ∙ replaced-replaced c.self.inside.images.entries c.args.target c.replace-drawn.new.dest c.copy.new.self)

pub returns : goal.returns
returns c =
    let emptied : (c.get_mut.follows.lender c.replace-drawn.new.dest).entries ≡ replaced c.self.inside.images.entries c.args.target c.replace-drawn.new.dest = search rules in
    let found : picture_of (c.get_mut.follows.lender c.replace-drawn.new.dest).entries c.args.source ≡ Some c.unwrap-2.result.now = grind (arith, common_steps) in
    let source_there : picture_of c.args.self.now c.args.source ≡ Some c.unwrap-2.result.now =
    ap (λ images. picture_of images c.args.source) (sym c.self.view_is)
    ∙ sym (picture_of-replaced_other c.args.target c.args.source c.self.inside.images.entries c.replace-drawn.new.dest (λ same. c.requires.apart (sym same)))
    ∙ ap (λ images. picture_of images c.args.source) (sym emptied) ∙ found in
    let target_there : picture_of c.args.self.now c.args.target ≡ Some c.replace-drawn.result = grind (arith, common_steps) in
    let both = copy-fits c.args.self.now c.args.source c.args.sx c.args.sy c.args.target c.args.to.x c.args.to.y c.args.to.w c.args.to.h c.unwrap-2.result.now c.replace-drawn.result c.requires.done source_there target_there in
    let written : (c.get_mut-2.follows.lender c.copy.new.self).entries ≡ replaced (c.get_mut.follows.lender c.replace-drawn.new.dest).entries c.args.target c.copy.new.self = search rules in
    written ∙ ap (λ images. replaced images c.args.target c.copy.new.self) emptied ∙ replaced-replaced c.self.inside.images.entries c.args.target c.replace-drawn.new.dest c.copy.new.self
    ∙ ap (λ images. replaced images c.args.target c.copy.new.self) c.self.view_is ∙ ap (replaced c.args.self.now c.args.target) c.copy.ensures
    ∙ sym (ap (λ end. end.images) (copy-done c.args.self.now c.args.source c.args.sx c.args.sy c.args.target c.args.to.x c.args.to.y c.args.to.w c.args.to.h c.unwrap-2.result.now c.replace-drawn.result source_there target_there (and_from _ _ both.0 both.1)))
