use Rattle.std.proofs.Common.{◌≡◌, ◌∙◌, arith, sym, ap, subst, None, Some, rules, true, false}
use Rattle.std.proofs.lemmas.Grind.{common_steps}
use Rattle.gpu_store.specs.Picture.{has_rect, texel_count}
use Rattle.gpu_store.specs.Images.{picture_of, replaced, AreCounted}
use Rattle.gpu_store.proofs.Counting.{counted-replaced, replaced-same, texel_count-drawn}
use Rattle.gpu_store.proofs.Steps.{upload-missing, upload-outside, upload-done}
use Rattle.gpu_store.proofs.images.Images.upload.Goals as goal

pub returns-in_default-clause-answer : goal.returns-in_default-clause-answer
returns-in_default-clause-answer c =
    let missing : picture_of c.args.self.now c.args.image ≡ None = grind (arith, common_steps) in
    sym (ap (λ end. end.answer) (upload-missing c.args.self.now c.args.image c.args.rect c.args.texels.now missing))

pub returns-in_default-clause-images : goal.returns-in_default-clause-images
returns-in_default-clause-images c =
    let missing : picture_of c.args.self.now c.args.image ≡ None = grind (arith, common_steps) in
    let kept : c.get_mut.follows.lender-at-none.entries ≡ c.args.self.now = search rules in
    kept ∙ sym (ap (λ end. end.images) (upload-missing c.args.self.now c.args.image c.args.rect c.args.texels.now missing))

pub invariant_of-self-then-not-fits : goal.invariant_of-self-then-not-fits
invariant_of-self-then-not-fits c =
    let there : picture_of c.self.inside.images.entries c.args.image ≡ Some c.in-Some.found.now = grind (arith, common_steps) in
    let kept : (c.get_mut.follows.lender c.in-Some.found.now).entries ≡ c.self.inside.images.entries = replaced-same _ _ c.args.image c.in-Some.found.now there (search rules) in
    subst (AreCounted c.self.inside.texels) (sym kept) c.self.invariant

pub returns-then-not-fits-clause-answer : goal.returns-then-not-fits-clause-answer
returns-then-not-fits-clause-answer c =
    let there : picture_of c.args.self.now c.args.image ≡ Some c.in-Some.found.now = grind (arith, common_steps) in
    let outside : has_rect c.in-Some.found.now c.args.rect ≡ false = search rules in
    sym (ap (λ end. end.answer) (upload-outside c.args.self.now c.args.image c.args.rect c.args.texels.now c.in-Some.found.now there outside))

pub returns-then-not-fits-clause-images : goal.returns-then-not-fits-clause-images
returns-then-not-fits-clause-images c =
    let there : picture_of c.self.inside.images.entries c.args.image ≡ Some c.in-Some.found.now = grind (arith, common_steps) in
    let shown : picture_of c.args.self.now c.args.image ≡ Some c.in-Some.found.now = grind (arith, common_steps) in
    let outside : has_rect c.in-Some.found.now c.args.rect ≡ false = search rules in
    replaced-same _ _ c.args.image c.in-Some.found.now there (search rules) ∙ c.self.view_is
    ∙ sym (ap (λ end. end.images) (upload-outside c.args.self.now c.args.image c.args.rect c.args.texels.now c.in-Some.found.now shown outside))

pub invariant_of-self-2 : goal.invariant_of-self-2
invariant_of-self-2 c =
    let there : picture_of c.self.inside.images.entries c.args.image ≡ Some c.in-Some.found.now = grind (arith, common_steps) in
    counted-replaced c.self.inside.texels c.args.image c.self.inside.images.entries _ c.in-Some.found.now c.upload.new.self c.self.invariant there
    (ap (λ picture. texel_count picture) c.upload.ensures ∙ texel_count-drawn c.in-Some.found.now c.args.rect _) (search rules)

pub returns-clause-answer : goal.returns-clause-answer
returns-clause-answer c =
    let there : picture_of c.args.self.now c.args.image ≡ Some c.in-Some.found.now = grind (arith, common_steps) in
    let fit : has_rect c.in-Some.found.now c.args.rect ≡ true = search rules in
    sym (ap (λ end. end.answer) (upload-done c.args.self.now c.args.image c.args.rect c.args.texels.now c.in-Some.found.now there fit))

pub returns-clause-images : goal.returns-clause-images
returns-clause-images c =
    let there : picture_of c.args.self.now c.args.image ≡ Some c.in-Some.found.now = grind (arith, common_steps) in
    let fit : has_rect c.in-Some.found.now c.args.rect ≡ true = search rules in
    let written : (c.get_mut.follows.lender c.upload.new.self).entries ≡ replaced c.self.inside.images.entries c.args.image c.upload.new.self = search rules in
    written ∙ ap (λ images. replaced images c.args.image c.upload.new.self) c.self.view_is ∙ ap (replaced c.args.self.now c.args.image) c.upload.ensures
    ∙ sym (ap (λ end. end.images) (upload-done c.args.self.now c.args.image c.args.rect c.args.texels.now c.in-Some.found.now there fit))
