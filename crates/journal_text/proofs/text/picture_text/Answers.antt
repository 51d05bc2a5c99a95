use Rattle.std.proofs.Common.{◌∙◌, ℕ, ap, sym, length, take}
use Rattle.std.specs.List.{flat_map}
use Rattle.std.proofs.Math.Seq.{take-length}
use Rattle.std.proofs.lemmas.List.{length_push}
use Rattle.gpu_store.specs.Images.{Pictures}
use Rattle.gpu_store.proofs.Lookups.{number_stands, numbers_end}
use Rattle.journal_text.specs.Picture.{image_text, picture_text}
use Rattle.journal_text.proofs.Rows.{images_more}
use Rattle.journal_text.proofs.text.picture_text.Goals as goal

pub loop-image-preserved : goal.loop-image-preserved
loop-image-preserved c =
    let images : Pictures = c.args.images.now in
    let image : ℕ = c.in-Some.image in
    let all = c.into_iter-image-iterator.ensures.into_iter_gives ∙ c.numbers-image-items.ensures.numbers in
    let stands = number_stands images _ c.loop-image.yielded _ all c.loop-image.yielded_by _ _ c.next.ensures.steps image c.in-Some.is c.numbers-image-items.ensures.sorted in
    images_more images (length c.loop-image.yielded) image c.loop-image.text.items c.push_image.new.out.items stands c.in_ok-push_image.ensures c.loop-image.invariant
    ∙ ap (λ n. flat_map image_text (take n images)) (sym (length_push c.loop-image.yielded image))

pub returns : goal.returns
unfolding picture_text
returns c =
    let images : Pictures = c.args.images.now in
    let all = c.into_iter-image-iterator.ensures.into_iter_gives ∙ c.numbers-image-items.ensures.numbers in
    let count = numbers_end images _ c.loop-image.yielded _ all c.loop-image.yielded_by _ _ c.next.ensures.steps c.in-None.is in
    c.loop-image.invariant ∙ ap (λ n. flat_map image_text (take n images)) count ∙ ap (λ (entries : Pictures). flat_map image_text entries) (take-length images)
