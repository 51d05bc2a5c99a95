-- The lines of images, one after the other.
use Rattle.std.proofs.Common.{◌≡◌, ℕ, zero, suc, ◌+◌, ◌≤◌, List, [], ◌∷◌, ◌++◌, length, get_or, take, drop, map, Option, Some, None, sym, ap, subst, ◌∙◌, append_assoc, arith}
use Rattle.std.specs.Prelude.{IfSome, option_map, unwrap_or, codes}
use Rattle.std.specs.List.{flat_map, join_with_byte, range_with_len}
use Rattle.std.proofs.lemmas.List.{append-nil, take_more, flat_map_more}
use Rattle.gpu_store.specs.Picture.{Picture, texel_row}
use Rattle.gpu_store.specs.Images.{Pictures, picture_of}
use Rattle.gpu_store.proofs.Lookups.{Stands}
use Rattle.journal_text.specs.Digits.{hex8}
use Rattle.journal_text.specs.Picture.{head_text, row_text, image_text}

joined : (first : ℕ) (more : List ℕ) → join_with_byte 32 (map hex8 (first ∷ more)) ≡ hex8 first ++ flat_map (λ texel. 32 ∷ hex8 texel) more
joined first [] = sym (append-nil (hex8 first))
joined first (next ∷ more) = ap (λ (rest : List ℕ). hex8 first ++ (32 ∷ rest)) (joined next more)

pub row_joined : (texels : List ℕ) → 1 ≤ length texels → row_text texels ≡ (hex8 (get_or texels 0 0) ++ flat_map (λ texel. 32 ∷ hex8 texel) (drop 1 texels)) ++ codes "\n"
unfolding row_text
row_joined [] some = absurd (omega arith)
row_joined (first ∷ more) some = ap (λ (row : List ℕ). row ++ codes "\n") (joined first more)

-- one number more at the end of a range
range_more : (from count : ℕ) → range_with_len from (count + 1) ≡ range_with_len from count ++ (from + count) ∷ []
range_more from zero = ap (λ n. n ∷ []) (omega arith)
range_more from (suc count) =
    let one : suc count + 1 ≡ suc (count + 1) = omega arith in
    ap (range_with_len from) one ∙ ap (λ (more : List ℕ). from ∷ more) (range_more (from + 1) count ∙ ap (λ n. range_with_len (from + 1) count ++ n ∷ []) (omega arith))

-- the lines of the first rows, and one row more
abbrev pub rows_text : Picture → ℕ → List ℕ
rows_text picture count = flat_map (λ y. row_text (texel_row picture y)) (range_with_len 0 count)

pub rows_more : (found : Option Picture) (image y : ℕ) (front old new row : List ℕ) → IfSome found (λ picture. row ≡ texel_row picture y) → new ≡ old ++ row_text row
    → IfSome found (λ picture. old ≡ (front ++ head_text image picture.width picture.height) ++ rows_text picture y)
    → IfSome found (λ picture. new ≡ (front ++ head_text image picture.width picture.height) ++ rows_text picture (y + 1))
rows_more None image y front old new row is pushed so_far = tt
rows_more (Some picture) image y front old new row is pushed so_far =
    let before = front ++ head_text image picture.width picture.height in
    let f : ℕ → List ℕ = λ y. row_text (texel_row picture y) in
    pushed
    ∙ ap (λ (text : List ℕ). text ++ row_text row) so_far
    ∙ ap (λ (r : List ℕ). (before ++ rows_text picture y) ++ row_text r) is
    ∙ flat_map_more f before (range_with_len 0 y) y
    ∙ ap (λ (ys : List ℕ). before ++ flat_map f ys) (sym (range_more 0 y ∙ ap (λ n. range_with_len 0 y ++ n ∷ []) (omega arith)))

pub image_done : (found : Option Picture) (image width height y : ℕ) (front out : List ℕ) → option_map {U = ℕ × ℕ} (λ (picture : Picture). (picture.width, picture.height)) found ≡ Some (width, height) → y ≡ height
    → IfSome found (λ picture. out ≡ (front ++ head_text image picture.width picture.height) ++ rows_text picture y)
    → IfSome found (λ picture. out ≡ front ++ image_text (image, picture))
unfolding image_text
image_done None image width height y front out size end so_far = tt
image_done (Some picture) image width height y front out size end so_far =
    let none : ℕ × ℕ = (0, 0) in
    let high : picture.height ≡ height = ap (λ (o : Option (ℕ × ℕ)). (unwrap_or o none).1) size in
    so_far ∙ ap (λ n. (front ++ head_text image picture.width picture.height) ++ rows_text picture n) (end ∙ sym high) ∙ append_assoc front (head_text image picture.width picture.height) (rows_text picture picture.height)

-- the lines of the first images, and one image more
pub images_more : (images : Pictures) (index image : ℕ) (old new : List ℕ) → Stands images index image
    → IfSome (picture_of images image) (λ picture. new ≡ old ++ image_text (image, picture)) → old ≡ flat_map image_text (take index images) → new ≡ flat_map image_text (take (index + 1) images)
images_more images index image old new stands pushed so_far =
    let entry = stands.entry in
    let added : new ≡ old ++ image_text (image, entry.1) = subst (λ (o : Option Picture). IfSome o (λ picture. new ≡ old ++ image_text (image, picture))) stands.shown pushed in
    added
    ∙ ap (λ (text : List ℕ). text ++ image_text (image, entry.1)) so_far
    ∙ ap (λ n. flat_map image_text (take index images) ++ image_text (n, entry.1)) stands.same
    ∙ flat_map_more image_text [] (take index images) entry
    ∙ ap (λ (e : ℕ × Picture). flat_map image_text (take index images ++ e ∷ [])) (sym stands.there)
    ∙ ap (λ (entries : List (ℕ × Picture)). flat_map image_text entries) (sym (take_more images index entry stands.within))
