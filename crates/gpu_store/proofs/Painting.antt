-- What is drawn into the texels of an image is what the definition draws.
use Rattle.std.proofs.Common.{◌≡◌, ℕ, ◌+◌, ◌-◌, ◌*◌, ◌/◌, ◌%◌, ◌<◌, ◌≤◌, true, cond, List, [], ◌++◌, length, get_or, replicate, sym, ap, subst, ◌∙◌, arith}
use Rattle.std.proofs.Math.Nat.{mul-le-mul_right, mul_comm}
use Rattle.std.proofs.lemmas.Nat.{div-add-mod', mod_below}
use Rattle.std.proofs.lemmas.List.{length-replicate, get_or-replicate, replicate-append-replicate}
use Rattle.std.proofs.lemmas.List.FromFn.{fill_by_all}
use Rattle.std.proofs.lemmas.Bool.Decides.{nat_tests}
use Rattle.gpu_store.specs.declared.rect.Rect.{Rect}
use Rattle.gpu_store.specs.Picture.{Picture, texel_at, painted, is_inside, has_rect, redrawn}
use Rattle.gpu_store.specs.Rows.{IsDrawn, canvas_texels}

-- the image of this size with these texels
abbrev pub picture : ℕ → ℕ → List ℕ → Picture
picture width height texels = record { width = width; height = height; texels = texels }

-- a given number of whole rows lies inside the texels of an image
pub rows_fit : (rows width height n : ℕ) → rows ≤ height → n ≡ width * height → rows * width ≤ n
rows_fit rows width height n le is = let far : rows * width ≤ height * width = mul-le-mul_right width le in omega (arith, mul_comm width height)

-- a rectangle that fits ends within the rows
pub fits_rows : (image : Picture) (rect : Rect) → has_rect image rect ≡ true → rect.y + rect.h ≤ image.height
fits_rows image rect is = grind (arith, nat_tests)

-- texels that are right at each column and row are those of the painted image
pub painted_from : (width height : ℕ) (texels : List ℕ) (texel : ℕ → ℕ → ℕ) → length texels ≡ width * height
    → ((x y : ℕ) → x < width → y * width + x < width * height → get_or texels (y * width + x) 0 ≡ texel x y)
    → picture width height texels ≡ painted width height texel
unfolding painted
painted_from width height texels texel len is =
    ap (picture width height) (fill_by_all (λ place. texel (place % width) (place / width)) texels (width * height) 0 len (λ k lt.
    let positive : 0 < width = wide width height k lt in
    let split : k / width * width + k % width ≡ k = div-add-mod' k width in
    ap (λ place. get_or texels place 0) (sym split) ∙ is (k % width) (k / width) (mod_below k width positive) (omega arith)))
  where
    wide : (width height k : ℕ) → k < width * height → 0 < width
    wide width height k lt = grind arith

-- what a drawing left in an image's texels is what the definition draws
pub drawn_view : (width height : ℕ) (old new : List ℕ) (before : Picture) (rect : Rect) (texel shown : ℕ → ℕ → ℕ)
    → picture width height old ≡ before → length old ≡ width * height
    → ((x y : ℕ) → texel x y ≡ shown x y)
    → IsDrawn width rect texel rect.y (rect.y + rect.h) old new
    → picture width height new ≡ redrawn before rect shown
unfolding redrawn
drawn_view width height old new before rect texel shown view len same drawing =
    let P : Picture → Type 0 = λ image. picture width height new ≡ painted image.width image.height (λ x y. cond (is_inside rect x y) (shown (x - rect.x) (y - rect.y)) (texel_at image x y)) in
    subst P view
    (painted_from width height new (λ x y. cond (is_inside rect x y) (shown (x - rect.x) (y - rect.y)) (texel_at (picture width height old) x y))
    (drawing.sized ∙ len)
    (λ x y lt within.
    let inside : y * width + x < length old = omega (arith, len) in
    drawing.shown x y lt inside
    ∙ ap (λ texel. cond (is_inside rect x y) texel (get_or old (y * width + x) 0)) (same (x - rect.x) (y - rect.y))))

-- a new image of zeros
pub blank_view : (width height : ℕ) (texels : List ℕ) → texels ≡ replicate (width * height) 0 → picture width height texels ≡ painted width height (λ x y. 0)
blank_view width height texels is =
    painted_from width height texels (λ x y. 0) (ap length is ∙ length-replicate (width * height) 0)
    (λ x y lt within. ap (λ texels. get_or texels (y * width + x) 0) is ∙ get_or-replicate (width * height) (y * width + x) 0 0 within)

-- texels of which only some zeros are written
pub blank_canvas : (count n : ℕ) (before items : List ℕ) → n ≤ count → before ≡ [] → items ≡ before ++ replicate {A = ℕ} (n - length before) 0
    → canvas_texels count items ≡ replicate {A = ℕ} count 0
blank_canvas count n before items le none is =
    let all : n - 0 ≡ n = omega arith in
    let zeros : items ≡ replicate {A = ℕ} n 0 =
    is ∙ ap (λ front. front ++ replicate {A = ℕ} (n - length front) 0) none ∙ ap (λ more. replicate {A = ℕ} more 0) all in
    ap (canvas_texels count) zeros
    ∙ ap (λ len. replicate {A = ℕ} n 0 ++ replicate {A = ℕ} (count - len) 0) (length-replicate n 0)
    ∙ replicate-append-replicate n (count - n) 0
    ∙ ap (λ count. replicate {A = ℕ} count 0) (omega arith)

-- a place counted from the first column of the first row
pub from_origin : (texels : List ℕ) (width x y : ℕ) → get_or texels ((0 + y) * width + (0 + x)) 0 ≡ get_or texels (y * width + x) 0
from_origin texels width x y = let e : 0 + y ≡ y = omega arith in ap (λ place. get_or texels place 0) (let f : 0 + x ≡ x = omega arith in ap (λ row. row * width + (0 + x)) e ∙ ap (λ column. y * width + column) f)

-- a texel of an image
pub stored_texel : (width height : ℕ) (texels : List ℕ) (image : Picture) (x y : ℕ) → picture width height texels ≡ image → get_or texels (y * width + x) 0 ≡ texel_at image x y
stored_texel width height texels image x y view = ap (λ image. texel_at image x y) view

-- the rows above the end of a rectangle that fits lie inside the texels of the image
pub rows_lent : (width height : ℕ) (texels : List ℕ) (image : Picture) (rect : Rect) (n : ℕ) → picture width height texels ≡ image → has_rect image rect ≡ true → n ≡ width * height
    → (rect.y + rect.h) * width ≤ n
rows_lent width height texels image rect n view fit len =
    let P : Picture → Type 0 = λ image. rect.y + rect.h ≤ image.height in
    rows_fit (rect.y + rect.h) width height n (subst P (sym view) (fits_rows image rect fit)) len
