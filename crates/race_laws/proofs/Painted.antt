-- Pictures that are painted by functions of columns and rows.
use Rattle.std.proofs.Common.{◌≡◌, ℕ, ◌+◌, ◌-◌, ◌*◌, ◌<◌, ◌≤◌, ◌/◌, ◌%◌, ◌⊎◌, inl, inr, Bool, true, false, ◌&&◌, cond, map, refl, sym, ap, ◌∙◌, arith}
use Rattle.std.specs.List.{range_with_len}
use Rattle.std.specs.Prelude.{nat_le, nat_lt}
use Rattle.std.proofs.Math.Nat.{mul-le-mul_right, mul_comm}
use Rattle.std.proofs.lemmas.Nat.{mod-mul-add, div-mul-add}
use Rattle.std.proofs.lemmas.Bool.{cases_lt}
use Rattle.std.proofs.lemmas.List.FromFn.{get_or-map-range_with_len, length-map-range_with_len}
use Rattle.std.proofs.lemmas.Bool.Decides.{nat_tests}
use Rattle.gpu_store.specs.declared.rect.Rect.{Rect}
use Rattle.gpu_store.specs.Picture.{Picture, texel_at, painted, redrawn, is_inside}
use Rattle.gpu_store.proofs.Painting.{painted_from}

-- a texel of a painted image
in_row : (x y width height : ℕ) → x < width → y < height → y * width + x < width * height
in_row x y width height lx ly =
    let most : (y + 1) * width ≤ height * width = mul-le-mul_right width (omega (arith, ly)) in
    let row : (y + 1) * width ≡ y * width + width = omega arith in
    let turn = mul_comm width height in
    omega (arith, most, row, turn, lx)

pub texel_painted : (width height : ℕ) (texel : ℕ → ℕ → ℕ) (x y : ℕ) → x < width → y < height → texel_at (painted width height texel) x y ≡ texel x y
unfolding painted
texel_painted width height texel x y lx ly =
    let column = mod-mul-add y width x lx in
    let row = div-mul-add y width x lx in
    get_or-map-range_with_len (λ place. texel (place % width) (place / width)) 0 (width * height) (y * width + x) (y * width + x) 0 (in_row x y width height lx ly) (omega arith)
    ∙ (λ i. texel (column i) (row i))

row_below : (x y width height : ℕ) → y * width + x < width * height → y < height
row_below x y width height lt = by (cases_lt y height)
  where
    by : (y < height) ⊎ (height ≤ y) → y < height
    by (inl less) = less
    by (inr more) =
        let most : height * width ≤ y * width = mul-le-mul_right width more in
        let turn = mul_comm width height in
        absurd (omega (arith, most, turn, lt))

-- painted by the same texels
pub painted_same : (width height : ℕ) (texel other : ℕ → ℕ → ℕ) → ((x y : ℕ) → x < width → y < height → texel x y ≡ other x y) → painted width height texel ≡ painted width height other
unfolding painted
painted_same width height texel other same =
    painted_from width height (map (λ place. texel (place % width) (place / width)) (range_with_len 0 (width * height))) other
    (length-map-range_with_len (λ place. texel (place % width) (place / width)) 0 (width * height))
    (λ x y lx lt. let ly = row_below x y width height lt in texel_painted width height texel x y lx ly ∙ same x y lx ly)

-- ---- pictures that are drawn upon

pub width_redrawn : (picture : Picture) (rect : Rect) (texel : ℕ → ℕ → ℕ) → (redrawn picture rect texel).width ≡ picture.width
unfolding redrawn painted
width_redrawn picture rect texel = refl

pub height_redrawn : (picture : Picture) (rect : Rect) (texel : ℕ → ℕ → ℕ) → (redrawn picture rect texel).height ≡ picture.height
unfolding redrawn painted
height_redrawn picture rect texel = refl

-- what a picture that is drawn upon shows
abbrev shows : Picture → Rect → (ℕ → ℕ → ℕ) → ℕ → ℕ → ℕ
shows picture rect texel x y = cond (is_inside rect x y) (texel (x - rect.x) (y - rect.y)) (texel_at picture x y)

redrawn_is : (picture : Picture) (rect : Rect) (texel : ℕ → ℕ → ℕ) → redrawn picture rect texel ≡ painted picture.width picture.height (shows picture rect texel)
unfolding redrawn
redrawn_is picture rect texel = refl

texel_redrawn : (picture : Picture) (rect : Rect) (texel : ℕ → ℕ → ℕ) (x y : ℕ) → x < picture.width → y < picture.height → texel_at (redrawn picture rect texel) x y ≡ shows picture rect texel x y
unfolding redrawn
texel_redrawn picture rect texel x y lx ly = texel_painted picture.width picture.height (shows picture rect texel) x y lx ly

-- outside the rectangle it shows what it showed
pub texel_outside : (picture : Picture) (rect : Rect) (texel : ℕ → ℕ → ℕ) (x y : ℕ) → x < picture.width → y < picture.height → is_inside rect x y ≡ false → texel_at (redrawn picture rect texel) x y ≡ texel_at picture x y
texel_outside picture rect texel x y lx ly out = texel_redrawn picture rect texel x y lx ly ∙ ap (λ (b : Bool). cond b (texel (x - rect.x) (y - rect.y)) (texel_at picture x y)) out

inside_width : (left top w h x y : ℕ) → (nat_le left x && nat_lt x (left + w) && nat_le top y && nat_lt y (top + h)) ≡ true → x - left < w
inside_width left top w h x y is = grind (arith, nat_tests)

inside_height : (left top w h x y : ℕ) → (nat_le left x && nat_lt x (left + w) && nat_le top y && nat_lt y (top + h)) ≡ true → y - top < h
inside_height left top w h x y is = grind (arith, nat_tests)

-- drawn with the same texels
pub redrawn_same : (picture : Picture) (rect : Rect) (texel other : ℕ → ℕ → ℕ) → ((x y : ℕ) → x < rect.w → y < rect.h → texel x y ≡ other x y) → redrawn picture rect texel ≡ redrawn picture rect other
redrawn_same picture rect texel other same =
    redrawn_is picture rect texel ∙ painted_same picture.width picture.height (shows picture rect texel) (shows picture rect other) (λ x y lx ly. by x y (is_inside rect x y) refl) ∙ sym (redrawn_is picture rect other)
  where
    by : (x y : ℕ) (b : Bool) → is_inside rect x y ≡ b → cond b (texel (x - rect.x) (y - rect.y)) (texel_at picture x y) ≡ cond b (other (x - rect.x) (y - rect.y)) (texel_at picture x y)
    by x y true q = same (x - rect.x) (y - rect.y) (inside_width rect.x rect.y rect.w rect.h x y q) (inside_height rect.x rect.y rect.w rect.h x y q)
    by x y false q = refl

-- two rectangles without a common texel are drawn in any order
pub redrawn_swap : (picture : Picture) (r q : Rect) (texel other : ℕ → ℕ → ℕ) → ((x y : ℕ) → is_inside r x y ≡ true → is_inside q x y ≡ true → ⊥)
    → redrawn (redrawn picture r texel) q other ≡ redrawn (redrawn picture q other) r texel
redrawn_swap picture r q texel other apart =
    let one = redrawn picture r texel in
    let two = redrawn picture q other in
    let left : redrawn one q other ≡ painted picture.width picture.height (shows one q other) = redrawn_is one q other ∙ (λ i. painted (width_redrawn picture r texel i) (height_redrawn picture r texel i) (shows one q other)) in
    let right : redrawn two r texel ≡ painted picture.width picture.height (shows two r texel) = redrawn_is two r texel ∙ (λ i. painted (width_redrawn picture q other i) (height_redrawn picture q other i) (shows two r texel)) in
    left ∙ painted_same picture.width picture.height (shows one q other) (shows two r texel) (λ x y lx ly.
    ap (λ v. cond (is_inside q x y) (other (x - q.x) (y - q.y)) v) (texel_redrawn picture r texel x y lx ly)
    ∙ by x y (is_inside r x y) refl (is_inside q x y) refl
    ∙ sym (ap (λ v. cond (is_inside r x y) (texel (x - r.x) (y - r.y)) v) (texel_redrawn picture q other x y lx ly))) ∙ sym right
  where
    by : (x y : ℕ) (b : Bool) → is_inside r x y ≡ b → (c : Bool) → is_inside q x y ≡ c
        → cond c (other (x - q.x) (y - q.y)) (cond b (texel (x - r.x) (y - r.y)) (texel_at picture x y)) ≡ cond b (texel (x - r.x) (y - r.y)) (cond c (other (x - q.x) (y - q.y)) (texel_at picture x y))
    by x y true i true j = absurd (apart x y i j)
    by x y true i false j = refl
    by x y false i c j = refl
