use Rattle.std.proofs.Common.{◌≡◌, ◌∙◌, arith, sym, ap, None, Some}
use Rattle.std.proofs.lemmas.Grind.{common_steps}
use Rattle.gpu_store.specs.Images.{picture_of, without}
use Rattle.gpu_store.proofs.Counting.{counted-without, texel_count-le-total}
use Rattle.gpu_store.proofs.Steps.{delete-missing, delete-done}
use Rattle.gpu_store.proofs.images.Images.delete.Goals as goal

pub overflow_sub-self : goal.overflow_sub-self
overflow_sub-self c =
    let there : picture_of c.self.inside.images.entries c.args.image ≡ Some c.in-Some.removed = grind (arith, common_steps) in
    omega (arith, texel_count-le-total c.self.inside.texels c.args.image c.self.inside.images.entries c.in-Some.removed c.self.invariant there, c.texel_count.ensures)

pub invariant_of-self-in-Some : goal.invariant_of-self-in-Some
invariant_of-self-in-Some c =
    let there : picture_of c.self.inside.images.entries c.args.image ≡ Some c.in-Some.removed = grind (arith, common_steps) in
    rw c.texel_count.ensures (counted-without c.self.inside.texels c.args.image c.self.inside.images.entries _ c.in-Some.removed c.self.invariant there c.remove.ensures.entries)

pub returns-in-None-clause-answer : goal.returns-in-None-clause-answer
returns-in-None-clause-answer c =
    let missing : picture_of c.args.self.now c.args.image ≡ None = grind (arith, common_steps) in
    sym (ap (λ end. end.answer) (delete-missing c.args.self.now c.args.image missing))

pub returns-in-None-clause-images : goal.returns-in-None-clause-images
returns-in-None-clause-images c =
    let missing : picture_of c.args.self.now c.args.image ≡ None = grind (arith, common_steps) in
    let kept : c.remove.new.self.entries ≡ c.self.inside.images.entries = grind (arith, common_steps) in
    kept ∙ c.self.view_is ∙ sym (ap (λ end. end.images) (delete-missing c.args.self.now c.args.image missing))

pub returns-in-Some-clause-answer : goal.returns-in-Some-clause-answer
returns-in-Some-clause-answer c =
    let there : picture_of c.args.self.now c.args.image ≡ Some c.in-Some.removed = grind (arith, common_steps) in
    sym (ap (λ end. end.answer) (delete-done c.args.self.now c.args.image c.in-Some.removed there))

pub returns-in-Some-clause-images : goal.returns-in-Some-clause-images
returns-in-Some-clause-images c =
    let there : picture_of c.args.self.now c.args.image ≡ Some c.in-Some.removed = grind (arith, common_steps) in
    c.remove.ensures.entries ∙ ap (λ images. without images c.args.image) c.self.view_is
    ∙ sym (ap (λ end. end.images) (delete-done c.args.self.now c.args.image c.in-Some.removed there))
