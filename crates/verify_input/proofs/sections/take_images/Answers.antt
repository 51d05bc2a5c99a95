use Rattle.verify_input.proofs.Names.{◌≡◌, length, sym, ap, subst, ◌∙◌, ℕ, arith, flat_map, length_push, drop_all, err_from_is_err_and, Pictures, picture_of, Stands, number_stands, numbers_end, image_lines, same_lines, lines_of_image}
use Rattle.verify_input.specs.declared.what.What.TheVariants as what
use Rattle.verify_input.proofs.Dues.{IsTaking, taking_none, taking_more, judged_exit, judged_all}
use Rattle.verify_input.proofs.Lefts.{images_left, images_next}
use Rattle.verify_input.proofs.Offered.{image_are}
use Rattle.verify_input.proofs.sections.take_images.Goals as goal
use Rattle.verify_input.proofs.sections.take_images.Goals.{In-Some, After-of}

-- the image at hand stands at the index of its turn
stands : (c : In-Some) → Stands c.args.images.now (length c.loop-image.yielded) c.in-Some.image
stands c =
    let images : Pictures = c.args.images.now in
    let all = c.into_iter-image-iterator.ensures.into_iter_gives ∙ c.numbers-image-items.ensures.numbers in
    number_stands images _ c.loop-image.yielded _ all c.loop-image.yielded_by _ _ c.next.ensures.steps c.in-Some.image c.in-Some.is c.numbers-image-items.ensures.sorted

-- its lines
own : (c : After-of) (here : Stands c.args.images.now (length c.loop-image.yielded) c.in-Some.image) → image_lines c.of.result.image (picture_of c.of.result.images.now c.of.result.image) ≡ lines_of_image (c.in-Some.image, here.entry.1)
own c here =
    (λ i. image_lines (c.of.ensures.image i) (picture_of (c.of.ensures.images i) (c.of.ensures.image i))) ∙ ap (image_lines c.in-Some.image) here.shown

pub loop-image-init : goal.loop-image-init
loop-image-init c = λ p h. taking_none

pub take_all-requires : goal.take_all-requires
take_all-requires c = record { fits = tt; each = image_are c.of.result.image (picture_of c.of.result.images.now c.of.result.image); other = λ e. cc }

pub returns-in_err-take_all : goal.returns-in_err-take_all
returns-in_err-take_all c = λ p h.
    let here = stands (goal.at.returns-in_err-take_all c).In-Some in
    judged_exit (err_from_is_err_and c.from_residual.result c.from_residual.ensures.1)
    (images_next c.args.images.now (length c.loop-image.yielded) c.in-Some.image here (own (goal.at.returns-in_err-take_all c).After-of here)) (c.loop-image.invariant p h) (c.in_err-take_all.ensures p h).err

pub loop-image-preserved : goal.loop-image-preserved
loop-image-preserved c = λ p h.
    let images : Pictures = c.args.images.now in
    let here = stands (goal.at.loop-image-preserved c).In-Some in
    subst (λ (n : ℕ). IsTaking p h (same_lines what.Image (flat_map lines_of_image images)) (images_left images n) c.args.rest.now c.take_all.new.self 0) (sym (length_push c.loop-image.yielded c.in-Some.image))
    (taking_more (images_next images (length c.loop-image.yielded) c.in-Some.image here (own (goal.at.loop-image-preserved c).After-of here)) (c.loop-image.invariant p h) (c.in_ok-take_all.ensures p h).ok)

pub returns : goal.returns
returns c = λ p h.
    let images : Pictures = c.args.images.now in
    let from = c.into_iter-image-iterator.ensures.into_iter_gives ∙ c.numbers-image-items.ensures.numbers in
    let end = numbers_end images _ c.loop-image.yielded _ from c.loop-image.yielded_by _ _ c.next.ensures.steps c.in-None.is in
    judged_all (ap (λ (entries : Pictures). same_lines what.Image (flat_map lines_of_image entries)) (drop_all (length c.loop-image.yielded) images (omega (arith, end)))) (c.loop-image.invariant p h)
