use Rattle.std.proofs.Common.{◌∙◌, ◌%◌, ◌^◌, ℕ, ap, sym, length, take}
use Rattle.std.specs.List.{sum_by}
use Rattle.std.proofs.Math.Seq.{take-length}
use Rattle.std.proofs.lemmas.List.{length_push}
use Rattle.gpu_store.specs.Images.{Pictures}
use Rattle.gpu_store.proofs.Lookups.{number_stands, numbers_end}
use Rattle.gpu_store.specs.Sums.{texel_sum}
use Rattle.gpu_store.proofs.Totals.{texels_in, images_more}
use Rattle.gpu_store.proofs.sums.texel_sum.Goals as goal

pub loop-image-preserved : goal.loop-image-preserved
loop-image-preserved c =
    let images : Pictures = c.args.images.now in
    let image : ℕ = c.in-Some.image in
    let all = c.into_iter-image-iterator.ensures.into_iter_gives ∙ c.numbers-image-items.ensures.numbers in
    let stands = number_stands images _ c.loop-image.yielded _ all c.loop-image.yielded_by _ _ c.next.ensures.steps image c.in-Some.is c.numbers-image-items.ensures.sorted in
    images_more images (length c.loop-image.yielded) image c.loop-image.total c.with_image-total.result stands c.with_image-total.ensures c.loop-image.invariant
    ∙ ap (λ n. sum_by texels_in (take n images) % 2 ^ 32) (sym (length_push c.loop-image.yielded image))

pub returns : goal.returns
unfolding texel_sum
returns c =
    let images : Pictures = c.args.images.now in
    let all = c.into_iter-image-iterator.ensures.into_iter_gives ∙ c.numbers-image-items.ensures.numbers in
    let count = numbers_end images _ c.loop-image.yielded _ all c.loop-image.yielded_by _ _ c.next.ensures.steps c.in-None.is in
    c.loop-image.invariant ∙ ap (λ n. sum_by texels_in (take n images) % 2 ^ 32) count ∙ ap (λ (entries : Pictures). sum_by texels_in entries % 2 ^ 32) (take-length images)
