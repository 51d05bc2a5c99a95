-- A rectangle is drawn one row after another, downwards or upwards.
use Rattle.std.proofs.Common.{◌≡◌, ◌≢◌, ℕ, ◌+◌, ◌-◌, ◌*◌, ◌<◌, ◌≤◌, ◌⊎◌, ◌&&◌, cond, List, ◌++◌, length, get_or, sym, ap, subst, refl, ◌∙◌, arith, inl, inr}
use Rattle.std.specs.Prelude.{nat_le, nat_lt}
use Rattle.std.proofs.Math.Nat.{mul-le-mul_right}
use Rattle.std.proofs.lemmas.Bool.{cases_lt, cases_eq}
use Rattle.std.proofs.lemmas.Bool.Decides.{nat_tests}
use Rattle.std.proofs.lemmas.Grind.{common_steps}
use Rattle.std.proofs.lemmas.List.{places, length-append}
use borrow.Rule.Slice.PartMut.{put_mid}
use Rattle.gpu_store.specs.declared.rect.Rect.{Rect}
use Rattle.gpu_store.specs.Rows.{IsWritten, IsDrawn}

-- a write to a part of a slice
pub written_mid : (old ys : List ℕ) (from count k : ℕ) (v : ℕ → ℕ) → k ≡ count → length ys ≡ count → from + count ≤ length old
    → ((i : ℕ) → i < count → get_or ys i 0 ≡ v i)
    → IsWritten from count v old (put_mid from k old ys)
written_mid old ys from count k v same len fits is = record {
  sized = grind (arith, places, common_steps);
  shown = λ j lt. in_parts j lt (cases_lt j from) (cases_lt j (from + count));
}
  where
    in_parts : (j : ℕ) → j < length old → (j < from) ⊎ (from ≤ j) → (j < from + count) ⊎ (from + count ≤ j)
        → get_or (put_mid from k old ys) j 0 ≡ cond (nat_le from j && nat_lt j (from + count)) (v (j - from)) (get_or old j 0)
    in_parts j lt (inl below) _ = grind (arith, places, nat_tests)
    in_parts j lt (inr above) (inl inside) = let e = is (j - from) (omega arith) in grind (arith, places, nat_tests)
    in_parts j lt (inr above) (inr past) = grind (arith, places, nat_tests)

-- a write to what stands after a front, from which it is copied
pub written_back : (old front back new : List ℕ) (from count to : ℕ) → old ≡ front ++ back → length front ≡ to → from + count ≤ to
    → IsWritten 0 count (λ i. get_or front (from + i) 0) back new
    → IsWritten to count (λ i. get_or old (from + i) 0) old (front ++ new)
written_back old front back new from count to is len apart written = record {
  sized = omega (arith, length-append front new, length-append front back, written.sized, ap length is);
  shown = λ k lt. in_parts k lt (cases_lt k to) (cases_lt k (to + count));
}
  where
    in_parts : (k : ℕ) → k < length old → (k < to) ⊎ (to ≤ k) → (k < to + count) ⊎ (to + count ≤ k)
        → get_or (front ++ new) k 0 ≡ cond (nat_le to k && nat_lt k (to + count)) (get_or old (from + (k - to)) 0) (get_or old k 0)
    in_parts k lt (inl below) _ = grind (arith, places, nat_tests)
    in_parts k lt (inr above) (inl inside) = let e = written.shown (k - to) (omega (arith, length-append front back, ap length is)) in grind (arith, places, nat_tests)
    in_parts k lt (inr above) (inr past) = let e = written.shown (k - to) (omega (arith, length-append front back, ap length is)) in grind (arith, places, nat_tests)

-- a row of the rectangle ends inside the texels
pub row_end : (row width left count last n : ℕ) → row < last → left + count ≤ width → last * width ≤ n → row * width + left + count ≤ n
row_end row width left count last n below fit rows =
    let far : (row + 1) * width ≤ last * width = mul-le-mul_right width (omega arith) in omega arith

-- a place of another row is outside this row's part
other_row : (width row left w x y : ℕ) → x < width → left + w ≤ width → y ≢ row → (y * width + x < row * width + left) ⊎ (row * width + left + w ≤ y * width + x)
other_row width row left w x y lt fits ne =
    elim (cases_lt y row) [
      | inl below ↦ let far : (y + 1) * width ≤ row * width = mul-le-mul_right width (omega arith) in inl (omega arith)
      | inr above ↦ let far : (row + 1) * width ≤ y * width = mul-le-mul_right width (omega arith) in inr (omega arith)
    ]

-- at a place of this row: k is its place, and start is that of the row's first texel
here : (start left w x k new old shown written : ℕ) → k ≡ start + x
    → (left ≤ x → x < left + w → written ≡ shown)
    → new ≡ cond (nat_le (start + left) k && nat_lt k (start + left + w)) written old
    → new ≡ cond (nat_le left x && nat_lt x (left + w)) shown old
here start left w x k new old shown written at same is = grind (arith, nat_tests)

-- at a place of another row nothing is written
elsewhere : (from w k new old written : ℕ) → (k < from) ⊎ (from + w ≤ k)
    → new ≡ cond (nat_le from k && nat_lt k (from + w)) written old
    → new ≡ old
elsewhere from w k new old written outside is = grind (arith, nat_tests)

-- the distance from the part's begin
place : (start left x : ℕ) → left ≤ x → start + x - (start + left) ≡ x - left
place start left x le = omega arith

-- at a place of this row, which is not among the rows drawn so far and is among those drawn now
drawn_here : (left w x row first last first' last' new mid old shown : ℕ) → (row < first) ⊎ (last ≤ row) → first' ≤ row → row < last'
    → new ≡ cond (nat_le left x && nat_lt x (left + w)) shown mid
    → mid ≡ cond (nat_le left x && nat_lt x (left + w) && nat_le first row && nat_lt row last) shown old
    → new ≡ cond (nat_le left x && nat_lt x (left + w) && nat_le first' row && nat_lt row last') shown old
drawn_here left w x row first last first' last' new mid old shown apart le lt a b = grind (arith, nat_tests)

-- another row is among the rows drawn now where it was among them before
abbrev SameOthers : ℕ → ℕ → ℕ → ℕ → ℕ → Type 0
SameOthers row first last first' last' = (y : ℕ) → y ≢ row → (nat_le first' y && nat_lt y last') ≡ (nat_le first y && nat_lt y last)

-- and at a place of another row
drawn_elsewhere : (left w x y first last first' last' mid old shown : ℕ) → (nat_le first' y && nat_lt y last') ≡ (nat_le first y && nat_lt y last)
    → mid ≡ cond (nat_le left x && nat_lt x (left + w) && nat_le first y && nat_lt y last) shown old
    → mid ≡ cond (nat_le left x && nat_lt x (left + w) && nat_le first' y && nat_lt y last') shown old
drawn_elsewhere left w x y first last first' last' mid old shown same is = grind (arith, nat_tests)

-- one more row of the rectangle
one_more : (width : ℕ) (rect : Rect) (texel : ℕ → ℕ → ℕ) (row first last first' last' : ℕ) (v : ℕ → ℕ) (old mid new : List ℕ)
    → rect.x + rect.w ≤ width → (row < first) ⊎ (last ≤ row) → first' ≤ row → row < last' → SameOthers row first last first' last'
    → ((i : ℕ) → i < rect.w → v i ≡ texel i (row - rect.y))
    → IsDrawn width rect texel first last old mid
    → IsWritten (row * width + rect.x) rect.w v mid new
    → IsDrawn width rect texel first' last' old new
one_more width rect texel row first last first' last' v old mid new fits apart le below others same drawn written = record {
  sized = written.sized ∙ drawn.sized;
  shown = λ x y lt within.
      elim (cases_eq y row) [
        | inl this ↦
            let P : ℕ → Type 0 = λ y. y * width + x < length old → get_or new (y * width + x) 0 ≡ cond (nat_le rect.x x && nat_lt x (rect.x + rect.w) && nat_le first' y && nat_lt y last') (texel (x - rect.x) (y - rect.y)) (get_or old (y * width + x) 0) in
            subst P (sym this) (λ inside.
            drawn_here rect.x rect.w x row first last first' last' (get_or new (row * width + x) 0) (get_or mid (row * width + x) 0) (get_or old (row * width + x) 0) (texel (x - rect.x) (row - rect.y)) apart le below
            (here (row * width) rect.x rect.w x (row * width + x) (get_or new (row * width + x) 0) (get_or mid (row * width + x) 0) (texel (x - rect.x) (row - rect.y)) (v (row * width + x - (row * width + rect.x))) refl
            (λ from below. ap v (place (row * width) rect.x x from) ∙ same (x - rect.x) (omega arith))
            (written.shown (row * width + x) (omega (arith, drawn.sized))))
            (drawn.shown x row lt inside)) within
        | inr other ↦
            let outside = other_row width row rect.x rect.w x y lt fits other in
            elsewhere (row * width + rect.x) rect.w (y * width + x) (get_or new (y * width + x) 0) (get_or mid (y * width + x) 0) _ outside (written.shown (y * width + x) (omega (arith, drawn.sized)))
            ∙ drawn_elsewhere rect.x rect.w x y first last first' last' (get_or mid (y * width + x) 0) (get_or old (y * width + x) 0) (texel (x - rect.x) (y - rect.y)) (others y other) (drawn.shown x y lt within)
      ];
}

-- one more row below those that are drawn
pub row_below : (width : ℕ) (rect : Rect) (texel : ℕ → ℕ → ℕ) (first row : ℕ) (v : ℕ → ℕ) (old mid new : List ℕ)
    → rect.x + rect.w ≤ width → first ≤ row
    → ((i : ℕ) → i < rect.w → v i ≡ texel i (row - rect.y))
    → IsDrawn width rect texel first row old mid
    → IsWritten (row * width + rect.x) rect.w v mid new
    → IsDrawn width rect texel first (row + 1) old new
row_below width rect texel first row v old mid new fits le =
    one_more width rect texel row first row first (row + 1) v old mid new fits (inr (omega arith)) le (omega arith) (λ y ne. grind (arith, nat_tests))

-- one more row above those that are drawn
pub row_above : (width : ℕ) (rect : Rect) (texel : ℕ → ℕ → ℕ) (row last : ℕ) (v : ℕ → ℕ) (old mid new : List ℕ)
    → rect.x + rect.w ≤ width → row < last
    → ((i : ℕ) → i < rect.w → v i ≡ texel i (row - rect.y))
    → IsDrawn width rect texel (row + 1) last old mid
    → IsWritten (row * width + rect.x) rect.w v mid new
    → IsDrawn width rect texel row last old new
row_above width rect texel row last v old mid new fits lt =
    one_more width rect texel row (row + 1) last row last v old mid new fits (inl (omega arith)) (omega arith) lt (λ y ne. grind (arith, nat_tests))

outside_rows : (left w x y first last mid old shown : ℕ) → (y < first) ⊎ (last ≤ y)
    → mid ≡ cond (nat_le left x && nat_lt x (left + w) && nat_le first y && nat_lt y last) shown old → mid ≡ old
outside_rows left w x y first last mid old shown outside is = grind (arith, nat_tests)

-- a row that is not drawn yet reads as it was: its texels from column sx on, where `from` is the place of the first
pub unread : (width : ℕ) (rect : Rect) (texel : ℕ → ℕ → ℕ) (first last : ℕ) (old mid : List ℕ) (sx y i : ℕ)
    → IsDrawn width rect texel first last old mid
    → sx + i < width → (y + 1) * width ≤ length old → (y < first) ⊎ (last ≤ y)
    → get_or mid (y * width + sx + i) 0 ≡ get_or old (y * width + (sx + i)) 0
unread width rect texel first last old mid sx y i drawn lt rows outside =
    let within : y * width + (sx + i) < length old = omega arith in
    ap (λ k. get_or mid k 0) (regrouped (y * width) sx i)
    ∙ outside_rows rect.x rect.w (sx + i) y first last (get_or mid (y * width + (sx + i)) 0) (get_or old (y * width + (sx + i)) 0) (texel (sx + i - rect.x) (y - rect.y)) outside (drawn.shown (sx + i) y lt within)
  where
    regrouped : (a b c : ℕ) → a + b + c ≡ a + (b + c)
    regrouped a b c = omega arith

-- the row of a rectangle that corresponds to another's ends inside the texels
pub source_end : (width sx sy w h top row n : ℕ) → sx + w ≤ width → (sy + h) * width ≤ n → top ≤ row → row < top + h
    → (sy + (row - top) + 1) * width ≤ n
source_end width sx sy w h top row n fits rows le lt =
    let far : (sy + (row - top) + 1) * width ≤ (sy + h) * width = mul-le-mul_right width (omega arith) in omega arith

-- the rows that are drawn, where their ends are written in another way
pub same_rows : (width : ℕ) (rect : Rect) (texel : ℕ → ℕ → ℕ) (first last first' last' : ℕ) (old new : List ℕ) → first ≡ first' → last ≡ last'
    → IsDrawn width rect texel first last old new → IsDrawn width rect texel first' last' old new
same_rows width rect texel first last first' last' old new e f drawn =
    let P : ℕ → Type 0 = λ a. IsDrawn width rect texel a last' old new in
    let Q : ℕ → Type 0 = λ b. IsDrawn width rect texel first b old new in
    subst P e (subst Q f drawn)

-- a texel of other texels, from column sx of row y on
pub other_place : (source : List ℕ) (start sx i : ℕ) → get_or source (start + sx + i) 0 ≡ get_or source (start + (sx + i)) 0
other_place source start sx i = ap (λ k. get_or source k 0) (regrouped start sx i)
  where
    regrouped : (a b c : ℕ) → a + b + c ≡ a + (b + c)
    regrouped a b c = omega arith
