-- How many texels the images have, through a change of one image.
use Rattle.std.proofs.Common.{◌≡◌, ℕ, suc, ◌+◌, ◌-◌, ◌*◌, ◌≤◌, ◌&&◌, true, Option, Some, None, List, [], ◌∷◌, length, refl, sym, ap, subst, ◌∙◌, arith, IfSome}
use Rattle.std.specs.List.{All, sum_by}
use Rattle.std.specs.Map.{values_of, keys_of}
use Rattle.std.specs.List.Sorted.{IsStrictlySortedBy}
use Rattle.std.specs.Cmp.{nat_cmp_total}
use Rattle.std.specs.Prelude.{unwrap_or, option_map}
use Rattle.std.specs.BTreeMap.{is_at}
use Rattle.std.specs.Ordering.{nat_cmp}
use Rattle.std.proofs.lemmas.Map.Entries.{sum_by-set_value, sum_by-remove_entry, sum_by-insert_entry, length-values_of}
use Rattle.std.proofs.lemmas.List.Sums.{sum_by-cons}
use Rattle.std.proofs.lemmas.Nat.{mul-le}
use Rattle.std.proofs.lemmas.Bool.Decides.{nat_tests}
use Rattle.std.proofs.lemmas.Map.Steps.{set_value_same}
use Rattle.std.proofs.lemmas.Map.Views.{All-values-set_value, All-values-insert_entry, All-map-remove_entry, IfSome-lookup_from_All}
use Rattle.gpu_store.specs.declared.rect.Rect.{Rect}
use Rattle.gpu_store.specs.Picture.{Picture, texel_count, painted, redrawn}
use Rattle.gpu_store.specs.Images.{Pictures, AreCounted, picture_of, replaced, with_image, without, total_texels, is_side}

-- an image that is drawn upon keeps its size
pub texel_count-drawn : (picture : Picture) (rect : Rect) (texel : ℕ → ℕ → ℕ) → texel_count (redrawn picture rect texel) ≡ texel_count picture
unfolding redrawn painted
texel_count-drawn picture rect texel = refl

-- no image that is found is empty
pub filled_at : (texels image : ℕ) (images : Pictures) (picture : Picture) → AreCounted texels images → picture_of images image ≡ Some picture → 1 ≤ texel_count picture
filled_at texels image images picture counted there =
    let P : Picture → Type 0 = λ picture. 1 ≤ texel_count picture in
    let Q : Option Picture → Type 0 = λ found. IfSome found P in
    subst Q there (IfSome-lookup_from_All P (is_at (nat_cmp image)) images counted.filled)

-- another picture of the same size
pub counted-replaced : (texels image : ℕ) (images after : Pictures) (picture new : Picture) → AreCounted texels images → picture_of images image ≡ Some picture
    → texel_count new ≡ texel_count picture → after ≡ replaced images image new → AreCounted texels after
counted-replaced texels image images after picture new counted there same is =
    let P : Picture → Type 0 = λ picture. 1 ≤ texel_count picture in
    let filled = filled_at texels image images picture counted there in
    subst (AreCounted texels) (sym is) record {
      counted = omega (arith, counted.counted, sum_by-set_value texel_count (is_at (nat_cmp image)) images picture new there, same);
      within = counted.within;
      filled = All-values-set_value (is_at (nat_cmp image)) P images new counted.filled (omega arith);
    }

-- a picture that was looked at and not changed
pub replaced-same : (images after : Pictures) (image : ℕ) (picture : Picture) → picture_of images image ≡ Some picture → after ≡ replaced images image picture → after ≡ images
replaced-same images after image picture there is = is ∙ set_value_same (is_at (nat_cmp image)) images picture there

-- one image less
pub counted-without : (texels image : ℕ) (images after : Pictures) (picture : Picture) → AreCounted texels images → picture_of images image ≡ Some picture
    → after ≡ without images image → AreCounted (texels - texel_count picture) after
counted-without texels image images after picture counted there is =
    let P : Picture → Type 0 = λ picture. 1 ≤ texel_count picture in
    let less : total_texels (without images image) + texel_count picture ≡ total_texels images =
    ap (λ found. total_texels (without images image) + unwrap_or (option_map texel_count found) 0) (sym there) ∙ sum_by-remove_entry texel_count (is_at (nat_cmp image)) images in
    subst (AreCounted (texels - texel_count picture)) (sym is) record {
      counted = omega (arith, counted.counted, less);
      within = omega (arith, counted.within);
      filled = All-map-remove_entry (is_at (nat_cmp image)) (λ entry. entry.1) P images counted.filled;
    }

-- an image has no more texels than all images
pub texel_count-le-total : (texels image : ℕ) (images : Pictures) (picture : Picture) → AreCounted texels images → picture_of images image ≡ Some picture → texel_count picture ≤ texels
texel_count-le-total texels image images picture counted there =
    let less : total_texels (without images image) + texel_count picture ≡ total_texels images =
    ap (λ found. total_texels (without images image) + unwrap_or (option_map texel_count found) 0) (sym there) ∙ sum_by-remove_entry texel_count (is_at (nat_cmp image)) images in
    omega (arith, counted.counted, less)

-- one image more
pub counted-added : (texels image : ℕ) (images after : Pictures) (new : Picture) → AreCounted texels images → picture_of images image ≡ None
    → IsStrictlySortedBy nat_cmp (keys_of images) → 1 ≤ texel_count new → texels + texel_count new ≤ 4194304
    → after ≡ with_image images image new → AreCounted (texels + texel_count new) after
counted-added texels image images after new counted missing sorted some room is =
    let P : Picture → Type 0 = λ picture. 1 ≤ texel_count picture in
    let more : total_texels (with_image images image new) + 0 ≡ total_texels images + texel_count new =
    ap (λ found. total_texels (with_image images image new) + unwrap_or (option_map texel_count found) 0) (sym missing) ∙ sum_by-insert_entry texel_count nat_cmp_total images image new sorted in
    subst (AreCounted (texels + texel_count new)) (sym is) record {
      counted = omega (arith, counted.counted, more);
      within = room;
      filled = All-values-insert_entry nat_cmp image new P images counted.filled some;
    }

-- no more images than texels
count-le-total : (pictures : List Picture) → All (λ picture. 1 ≤ texel_count picture) pictures → length pictures ≤ sum_by texel_count pictures
count-le-total [] filled = omega arith
count-le-total (picture ∷ pictures) filled =
    let rest : length pictures ≤ sum_by texel_count pictures = count-le-total pictures (λ k d lt. filled (suc k) d (omega arith)) in
    let first : 1 ≤ texel_count picture = filled 0 picture (omega arith) in
    omega (arith, rest, first, sum_by-cons texel_count picture pictures)

pub count-within : (texels : ℕ) (images : Pictures) → AreCounted texels images → length images ≤ 4194304
count-within texels images counted =
    omega (arith, length-values_of images, count-le-total (values_of images) counted.filled, counted.counted, counted.within)

-- a painted image has the size it was given
pub texel_count-painted : (width height : ℕ) (texel : ℕ → ℕ → ℕ) → texel_count (painted width height texel) ≡ width * height
unfolding painted
texel_count-painted width height texel = refl

-- an image that may be made is not empty
pub some_texels : (width height : ℕ) → (is_side width && is_side height) ≡ true → 1 ≤ width * height
some_texels width height sides =
    let wide : 1 ≤ width = grind (arith, nat_tests) in
    let high : 1 ≤ height = grind (arith, nat_tests) in
    mul-le 1 1 width height wide high
