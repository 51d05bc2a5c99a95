use Rattle.std.proofs.Common.{◌≡◌, ◌∙◌, ◌&&◌, ◌+◌, ◌*◌, arith, sym, ap, rules, true, false}
use Rattle.std.specs.Prelude.{nat_le, is_some}
use Rattle.std.proofs.lemmas.Grind.{common_steps}
use Rattle.gpu_store.specs.declared.op.Op.TheVariants.{Create}
use Rattle.gpu_store.specs.declared.op.Answer.TheVariants.{InvalidValue, InvalidOperation, OutOfTexels}
use Rattle.gpu_store.specs.Images.{picture_of, is_side, total_texels, with_image, apply}
use Rattle.gpu_store.specs.Picture.{texel_count, painted}
use Rattle.std.proofs.lemmas.Bool.{le-leb, lt-leb}
use Rattle.gpu_store.proofs.Counting.{texel_count-painted, counted-added, some_texels}
use Rattle.gpu_store.proofs.Steps.{create-there, create-sides, create-many, create-done, refused, done, missing_from}
use Rattle.gpu_store.proofs.images.Images.create.Goals as goal

-- ---- what each way through comes to

was_there : (c : goal.Then-contains_key) → apply c.args.self.now (Create c.args.image c.args.width c.args.height) ≡ refused c.args.self.now InvalidOperation
was_there c =
    let there : is_some (picture_of c.args.self.now c.args.image) ≡ true = grind (arith, common_steps) in
    create-there c.args.self.now c.args.image c.args.width c.args.height there

wrong_sides : (c : goal.Then-not-is_size) → apply c.args.self.now (Create c.args.image c.args.width c.args.height) ≡ refused c.args.self.now InvalidValue
wrong_sides c =
    let gone : is_some (picture_of c.args.self.now c.args.image) ≡ false = grind (arith, common_steps) in
    let sides : (is_side c.args.width && is_side c.args.height) ≡ false = search rules in
    create-sides c.args.self.now c.args.image c.args.width c.args.height (missing_from _ gone) sides

too_many : (c : goal.Then-width-height) → apply c.args.self.now (Create c.args.image c.args.width c.args.height) ≡ refused c.args.self.now OutOfTexels
too_many c =
    let gone : is_some (picture_of c.args.self.now c.args.image) ≡ false = grind (arith, common_steps) in
    let sides : (is_side c.args.width && is_side c.args.height) ≡ true = search rules in
    let counted : total_texels c.args.self.now ≡ c.self.inside.texels = ap total_texels (sym c.self.view_is) ∙ sym c.self.invariant.counted in
    let many : nat_le (total_texels c.args.self.now + c.args.width * c.args.height) 4194304 ≡ false = lt-leb _ _ (omega (arith, counted)) in
    create-many c.args.self.now c.args.image c.args.width c.args.height (missing_from _ gone) sides many

made : (c : goal.After-self-1) → apply c.args.self.now (Create c.args.image c.args.width c.args.height) ≡ done (with_image c.args.self.now c.args.image (painted c.args.width c.args.height (λ x y. 0)))
made c =
    let gone : is_some (picture_of c.args.self.now c.args.image) ≡ false = grind (arith, common_steps) in
    let sides : (is_side c.args.width && is_side c.args.height) ≡ true = search rules in
    let counted : total_texels c.args.self.now ≡ c.self.inside.texels = ap total_texels (sym c.self.view_is) ∙ sym c.self.invariant.counted in
    let room : nat_le (total_texels c.args.self.now + c.args.width * c.args.height) 4194304 ≡ true = le-leb _ _ (omega (arith, counted)) in
    create-done c.args.self.now c.args.image c.args.width c.args.height (missing_from _ gone) sides room

-- ---- so both the answer and the images are right

pub returns-then-contains_key-clause-answer : goal.returns-then-contains_key-clause-answer
returns-then-contains_key-clause-answer c = sym (ap (λ end. end.answer) (was_there c))

pub returns-then-contains_key-clause-images : goal.returns-then-contains_key-clause-images
returns-then-contains_key-clause-images c = sym (ap (λ end. end.images) (was_there c))

pub returns-then-not-is_size-clause-answer : goal.returns-then-not-is_size-clause-answer
returns-then-not-is_size-clause-answer c = sym (ap (λ end. end.answer) (wrong_sides c))

pub returns-then-not-is_size-clause-images : goal.returns-then-not-is_size-clause-images
returns-then-not-is_size-clause-images c = sym (ap (λ end. end.images) (wrong_sides c))

pub returns-then-width-height-clause-answer : goal.returns-then-width-height-clause-answer
returns-then-width-height-clause-answer c = sym (ap (λ end. end.answer) (too_many c))

pub returns-then-width-height-clause-images : goal.returns-then-width-height-clause-images
returns-then-width-height-clause-images c = sym (ap (λ end. end.images) (too_many c))

pub returns-clause-answer : goal.returns-clause-answer
returns-clause-answer c = sym (ap (λ end. end.answer) (made c))

pub returns-clause-images : goal.returns-clause-images
returns-clause-images c =
    c.in_ok-insert.ensures.entries ∙ ap (λ images. with_image images c.args.image c.in_ok-blank.blank) c.self.view_is ∙ ap (with_image c.args.self.now c.args.image) c.in_ok-blank.ensures
    ∙ sym (ap (λ end. end.images) (made c))

pub invariant_of-self-2 : goal.invariant_of-self-2
invariant_of-self-2 c =
    let gone : is_some (picture_of c.self.inside.images.entries c.args.image) ≡ false = grind (arith, common_steps) in
    let sides : (is_side c.args.width && is_side c.args.height) ≡ true = search rules in
    let size : texel_count c.in_ok-blank.blank ≡ c.args.width * c.args.height = ap (λ picture. texel_count picture) c.in_ok-blank.ensures ∙ texel_count-painted c.args.width c.args.height (λ x y. 0) in
    rw (← size) (counted-added c.self.inside.texels c.args.image c.self.inside.images.entries _ c.in_ok-blank.blank c.self.invariant (missing_from _ gone) c.in_ok-insert.ensures.was_ordered
    (omega (arith, size, some_texels c.args.width c.args.height sides)) (omega (arith, size)) c.in_ok-insert.ensures.entries)
