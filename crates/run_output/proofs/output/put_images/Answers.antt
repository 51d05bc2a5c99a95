use Rattle.std.proofs.Common.{◌≡◌, ◌∙◌, ℕ, sym, map, length, arith}
use Rattle.std.proofs.Math.Seq.{take-length}
use Rattle.std.proofs.lemmas.List.{length_push, length-map}
use Rattle.gpu_store.specs.Images.{Pictures}
use Rattle.gpu_store.proofs.Lookups.{Stands, number_stands, numbers_end}
use Rattle.journal_text.specs.Picture.{image_text}
use Rattle.run_output.proofs.Pieces.{line_put, line_failed}
use Rattle.run_output.proofs.Texts.{image_shown, images_text}
use Rattle.run_output.proofs.output.put_images.Given.{Over}
use Rattle.run_output.proofs.output.put_images.Goals.{In-Some}
use Rattle.run_output.proofs.output.put_images.Goals as goal

-- the image at hand stands at the index of its turn
stands : (g : Over) (c : In-Some g) → Stands c.args.images.now (length c.loop-image.yielded) c.in-Some.image
stands g c =
    let images : Pictures = c.args.images.now in
    let all = c.into_iter-image-iterator.ensures.into_iter_gives ∙ c.numbers-image-items.ensures.numbers in
    number_stands images _ c.loop-image.yielded _ all c.loop-image.yielded_by _ _ c.next.ensures.steps c.in-Some.image c.in-Some.is c.numbers-image-items.ensures.sorted

pub returns-in_err-put_all : goal.returns-in_err-put_all
returns-in_err-put_all g c =
    let images : Pictures = c.args.images.now in
    let index : ℕ = length c.loop-image.yielded in
    let here = stands g (goal.at.returns-in_err-put_all g c).In-Some in
    let lt = here.within in
    let text = image_shown images index c.in-Some.image here in
    rw (sym (images_text images)) (line_failed _ _ _ _ _ _ _ _ _ (map image_text images) index _ _ _ (omega (arith, length-map images image_text, lt)) c.from_residual.ensures.0 c.loop-image.invariant (rw (c.of.ensures.images, c.of.ensures.image, text) at c.in_err-put_all.ensures.puts))

pub loop-image-preserved : goal.loop-image-preserved
loop-image-preserved g c =
    let images : Pictures = c.args.images.now in
    let image : ℕ = c.in-Some.image in
    let index : ℕ = length c.loop-image.yielded in
    let here = stands g (goal.at.loop-image-preserved g c).In-Some in
    let lt = here.within in
    let text = image_shown images index image here in
    rw (length_push c.loop-image.yielded image) (line_put _ _ _ _ _ _ _ _ (map image_text images) index _ _ (omega (arith, length-map images image_text, lt)) c.loop-image.invariant (rw (c.of.ensures.images, c.of.ensures.image, text) at c.in_ok-put_all.ensures.puts))

pub returns : goal.returns
returns g c =
    let images : Pictures = c.args.images.now in
    let all = c.into_iter-image-iterator.ensures.into_iter_gives ∙ c.numbers-image-items.ensures.numbers in
    let end = numbers_end images _ c.loop-image.yielded _ all c.loop-image.yielded_by _ _ c.next.ensures.steps c.in-None.is in
    let whole : length c.loop-image.yielded ≡ length (map image_text images) = end ∙ sym (length-map images image_text) in
    rw (sym (images_text images), sym (take-length (map image_text images)), sym whole) c.loop-image.invariant
