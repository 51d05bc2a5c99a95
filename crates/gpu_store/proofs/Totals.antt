-- Sums modulo 2^32 of texels, row by row and image by image.
use Rattle.std.proofs.Common.{◌≡◌, ℕ, ◌+◌, ◌*◌, ◌%◌, ◌^◌, ◌<◌, List, ◌++◌, length, get_or, take, Option, Some, None, sym, ap, subst, ◌∙◌, arith}
use Rattle.std.specs.Prelude.{IfSome, option_map, unwrap_or}
use Rattle.std.specs.List.{sum, sum_by}
use Rattle.std.proofs.Math.Seq.{take-add, take-length}
use Rattle.std.proofs.lemmas.List.Sums.{sum_by-append, sum_by_more}
use Rattle.gpu_store.specs.Picture.{Picture, texel_row, IsWhole}
use Rattle.gpu_store.specs.Images.{Pictures, picture_of}
use Rattle.gpu_store.proofs.Lookups.{Stands}

-- the texels of an image of this number
abbrev pub texels_in : ℕ × Picture → ℕ
texels_in entry = sum entry.1.texels

-- one texel more
pub row_more : (before total i : ℕ) (row : List ℕ) → i < length row → total ≡ (before + sum (take i row)) % 2 ^ 32 → (total + get_or row i 0) % 2 ^ 32 ≡ (before + sum (take (i + 1) row)) % 2 ^ 32
row_more before total i row lt so_far = omega (arith, so_far, sum_by_more (λ texel. texel) row i 0 lt)

-- the sum of the first rows of an image, and of one row more
pub rows_more : (found : Option Picture) (before total new y : ℕ) (row : List ℕ) → IfSome found (λ picture. row ≡ texel_row picture y) → new ≡ (total + sum row) % 2 ^ 32
    → IfSome found (λ picture. total ≡ (before + sum (take (y * picture.width) picture.texels)) % 2 ^ 32)
    → IfSome found (λ picture. new ≡ (before + sum (take ((y + 1) * picture.width) picture.texels)) % 2 ^ 32)
rows_more None before total new y row is added so_far = tt
rows_more (Some picture) before total new y row is added so_far =
    let w = picture.width in
    let front = take (y * w) picture.texels in
    let further : (y + 1) * w ≡ y * w + w = omega arith in
    let cut : take ((y + 1) * w) picture.texels ≡ front ++ texel_row picture y = ap (λ n. take n picture.texels) further ∙ take-add (y * w) w picture.texels in
    let all : sum (take ((y + 1) * w) picture.texels) ≡ sum front + sum row = ap sum cut ∙ sum_by-append (λ texel. texel) front (texel_row picture y) ∙ ap (λ (r : List ℕ). sum front + sum r) (sym is) in
    omega (arith, added, so_far, all)

-- all rows of an image are the image
pub image_done : (found : Option Picture) (before total width height y : ℕ) → IfSome found IsWhole → option_map {U = ℕ × ℕ} (λ (picture : Picture). (picture.width, picture.height)) found ≡ Some (width, height) → y ≡ height
    → IfSome found (λ picture. total ≡ (before + sum (take (y * picture.width) picture.texels)) % 2 ^ 32)
    → IfSome found (λ picture. total ≡ (before + sum picture.texels) % 2 ^ 32)
image_done None before total width height y whole size end so_far = tt
image_done (Some picture) before total width height y whole size end so_far =
    let none : ℕ × ℕ = (0, 0) in
    let high : picture.height ≡ height = ap (λ (o : Option (ℕ × ℕ)). (unwrap_or o none).1) size in
    let count : y * picture.width ≡ length picture.texels = ap (λ n. n * picture.width) (end ∙ sym high) ∙ omega (arith, whole) in
    so_far ∙ ap (λ n. (before + sum (take n picture.texels)) % 2 ^ 32) count ∙ ap (λ (texels : List ℕ). (before + sum texels) % 2 ^ 32) (take-length picture.texels)

-- the sum of the first images, and of one image more
pub images_more : (images : Pictures) (index image total new : ℕ) → Stands images index image
    → IfSome (picture_of images image) (λ picture. new ≡ (total + sum picture.texels) % 2 ^ 32) → total ≡ sum_by texels_in (take index images) % 2 ^ 32 → new ≡ sum_by texels_in (take (index + 1) images) % 2 ^ 32
images_more images index image total new stands added so_far =
    let entry = stands.entry in
    let more : new ≡ (total + sum entry.1.texels) % 2 ^ 32 = subst (λ (o : Option Picture). IfSome o (λ picture. new ≡ (total + sum picture.texels) % 2 ^ 32)) stands.shown added in
    let step : sum_by texels_in (take (index + 1) images) ≡ sum_by texels_in (take index images) + texels_in (get_or images index entry) = sum_by_more texels_in images index entry stands.within in
    let same : texels_in (get_or images index entry) ≡ sum entry.1.texels = ap texels_in stands.there in
    omega (arith, more, so_far, step, same)
