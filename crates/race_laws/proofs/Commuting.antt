-- Two operations that do not clash are done in any order.
use Rattle.std.proofs.Common.{◌≡◌, ℕ, ◌+◌, ◌*◌, ◌<◌, ◌≤◌, ◌⊎◌, inl, inr, eqb, Bool, true, false, ◌&&◌, cond, Option, Some, None, Result, Ok, Err, slice_index, refl, sym, ap, subst, ◌∙◌, arith}
use Rattle.std.specs.Prelude.{nat_le}
use Rattle.std.proofs.lemmas.Bool.{and_parts, eq-eqb, eqb-true, eqb-false, ne_eqb, leb-true, le-leb, lt-ltb, or_left, or_right}
use Rattle.gpu_word.specs.Outcome.{◌>>=◌, unless}
use Rattle.gpu_store.specs.declared.op.Op.{Op}
use Rattle.gpu_store.specs.declared.op.Op.TheVariants.{Create, Delete, Clear, Copy, Upload}
use Rattle.gpu_store.specs.declared.op.Answer.{Answer}
use Rattle.gpu_store.specs.declared.op.Answer.TheVariants.{InvalidValue, InvalidOperation}
use Rattle.gpu_store.specs.declared.rect.Rect.{Rect}
use Rattle.gpu_store.specs.Picture.{Picture, texel_at, redrawn, rectangle, has_rect, is_inside}
use Rattle.race_laws.specs.Touches.{Area, Whole, Part, overlaps}
use Rattle.race_laws.proofs.Sheets.{Sheet, target, origin, drawing, copying, fate, fate_in, answer_of, put, drawn}
use Rattle.race_laws.proofs.Painted.{width_redrawn, height_redrawn, texel_outside, redrawn_same, redrawn_swap}
use Rattle.race_laws.proofs.Clashes.{wrote, read, wrote_target, AreFree, Free, free, differ, parted, no_common, meet_turned, whole_over}

-- in either order they leave the same images, and each is answered as if it were alone
pub record Commute (a b : Op) (sheet : Sheet) : Type 0 where
  pub images : drawn b (drawn a sheet) ≡ drawn a (drawn b sheet)
  pub first : answer_of (fate_in a (drawn b sheet)) ≡ answer_of (fate_in a sheet)
  pub second : answer_of (fate_in b (drawn a sheet)) ≡ answer_of (fate_in b sheet)

-- ---- operations on different images

put_other : (images : Sheet) (number i : ℕ) (end : Result (Option Picture) Answer) → (number ≡ i → ⊥) → put images number end i ≡ images i
put_other images number i (Ok new) apart = ap (λ (b : Bool). cond b new (images i)) (ne_eqb number i apart)
put_other images number i (Err answer) apart = refl

put_own : (images : Sheet) (number : ℕ) (new : Option Picture) → put images number (Ok new) number ≡ new
put_own images number new = ap (λ (b : Bool). cond b new (images number)) (eq-eqb number number refl)

put_swap : (images : Sheet) (m n : ℕ) (end other : Result (Option Picture) Answer) → (m ≡ n → ⊥) → (i : ℕ) → put (put images m end) n other i ≡ put (put images n other) m end i
put_swap images m n (Err a) (Err b) apart i = refl
put_swap images m n (Err a) (Ok new) apart i = refl
put_swap images m n (Ok new) (Err b) apart i = refl
put_swap images m n (Ok one) (Ok two) apart i = by (eqb m i) refl (eqb n i) refl
  where
    by : (b : Bool) → eqb m i ≡ b → (c : Bool) → eqb n i ≡ c → cond c two (cond b one (images i)) ≡ cond b one (cond c two (images i))
    by true p true q = absurd (apart (eqb-true m i p ∙ sym (eqb-true n i q)))
    by true p false q = refl
    by false p c q = refl

module _ (a b : Op) (images : Sheet) where
  apart_images : (target a ≡ target b → ⊥) → (target a ≡ origin b → ⊥) → (origin a ≡ target b → ⊥) → Commute a b images
  apart_images both first second =
      let one : fate_in b (drawn a images) ≡ fate_in b images = λ i. fate b (put_other images (target a) (origin b) (fate_in a images) first i) (put_other images (target a) (target b) (fate_in a images) both i) in
      let two : fate_in a (drawn b images) ≡ fate_in a images = λ i. fate a (put_other images (target b) (origin a) (fate_in b images) (λ e. second (sym e)) i) (put_other images (target b) (target a) (fate_in b images) (λ e. both (sym e)) i) in
      record {
        images =
            ap (put (drawn a images) (target b)) one
            ∙ (λ i. λ n. put_swap images (target a) (target b) (fate_in a images) (fate_in b images) both n i)
            ∙ sym (ap (put (drawn b images) (target a)) two);
        first = ap answer_of two;
        second = ap answer_of one;
      }

-- ---- drawings

-- the operation draws upon an image
abbrev IsDrawing : Op → Type 0
IsDrawing (Create image width height) = ⊥
IsDrawing (Delete image) = ⊥
IsDrawing (Clear image rect texel) = Unit {0}
IsDrawing (Copy source sx sy other dx dy w h) = Unit {0}
IsDrawing (Upload image rect texels) = Unit {0}

-- where it draws, and where it reads
abbrev rect_of : Op → Rect
rect_of (Create image width height) = rectangle 0 0 0 0
rect_of (Delete image) = rectangle 0 0 0 0
rect_of (Clear image rect texel) = rect
rect_of (Copy source sx sy other dx dy w h) = rectangle dx dy w h
rect_of (Upload image rect texels) = rect

abbrev from_of : Op → Rect
from_of (Create image width height) = rectangle 0 0 0 0
from_of (Delete image) = rectangle 0 0 0 0
from_of (Clear image rect texel) = rect
from_of (Copy source sx sy other dx dy w h) = rectangle sx sy w h
from_of (Upload image rect texels) = rect

abbrev copied_texel : Option Picture → ℕ → ℕ → ℕ → ℕ → ℕ
copied_texel None sx sy x y = 0
copied_texel (Some picture) sx sy x y = texel_at picture (sx + x) (sy + y)

-- the texels that it draws, by what it reads
abbrev ink : Op → Option Picture → ℕ → ℕ → ℕ
ink (Create image width height) from = λ x y. 0
ink (Delete image) from = λ x y. 0
ink (Clear image rect texel) from = λ x y. texel
ink (Copy source sx sy other dx dy w h) from = copied_texel from sx sy
ink (Upload image rect texels) from = λ x y. slice_index texels (y * rect.w + x)

-- both are missing, or both are there with the same size
abbrev Alike : Option Picture → Option Picture → Type 0
Alike None None = Unit {0}
Alike None (Some q) = ⊥
Alike (Some p) None = ⊥
Alike (Some p) (Some q) = (p.width ≡ q.width) × (p.height ≡ q.height)

-- the rectangle that is read lies in what is read
abbrev Fits : Op → Option Picture → Type 0
Fits op None = Unit {0}
Fits op (Some picture) = has_rect picture (from_of op) ≡ true

-- on images of the same sizes a drawing is refused alike, or drawn
data View (op : Op) (from to from' to' : Option Picture) : Type 0 where
  refused : (answer : Answer) → fate op from to ≡ Err answer → fate op from' to' ≡ Err answer → View op from to from' to'
  drawn_on : (p p' : Picture) → to ≡ Some p → to' ≡ Some p' → fate op from to ≡ Ok (Some (redrawn p (rect_of op) (ink op from))) → fate op from' to' ≡ Ok (Some (redrawn p' (rect_of op) (ink op from')))
      → Fits op from → Fits op from' → View op from to from' to'

same_fit : (p q : Picture) (rect : Rect) → (p.width ≡ q.width) × (p.height ≡ q.height) → has_rect q rect ≡ has_rect p rect
same_fit p q rect e = λ i. nat_le (rect.x + rect.w) (sym e.0 i) && nat_le (rect.y + rect.h) (sym e.1 i)

drawing_by : (rect : Rect) (texel : ℕ → ℕ → ℕ) (p : Picture) (b : Bool) → has_rect p rect ≡ b → drawing rect texel (Some p) ≡ (unless b InvalidValue >>= λ _. Ok (Some (redrawn p rect texel)))
drawing_by rect texel p b is = ap (λ (b : Bool). unless b InvalidValue >>= λ _. Ok (Some (redrawn p rect texel))) is

copying_by : (sx sy : ℕ) (rect : Rect) (f p : Picture) (b : Bool) → (has_rect f (rectangle sx sy rect.w rect.h) && has_rect p rect) ≡ b
    → copying sx sy rect (Some f) (Some p) ≡ (unless b InvalidValue >>= λ _. Ok (Some (redrawn p rect (λ x y. texel_at f (sx + x) (sy + y)))))
copying_by sx sy rect f p b is = ap (λ (b : Bool). unless b InvalidValue >>= λ _. Ok (Some (redrawn p rect (λ x y. texel_at f (sx + x) (sy + y))))) is

view : (op : Op) (from to from' to' : Option Picture) → IsDrawing op → (origin op ≡ target op → from ≡ to) → (origin op ≡ target op → from' ≡ to') → Alike from from' → Alike to to' → View op from to from' to'
view (Create image width height) from to from' to' is own own' like same = absurd is
view (Delete image) from to from' to' is own own' like same = absurd is
view (Clear image rect texel) from None from' None is own own' like same = refused InvalidOperation refl refl
view (Clear image rect texel) from None from' (Some p') is own own' like same = absurd same
view (Clear image rect texel) from (Some p) from' None is own own' like same = absurd same
view (Clear image rect texel) from (Some p) from' (Some p') is own own' like same = by (has_rect p rect) refl
  where
    by : (b : Bool) → has_rect p rect ≡ b → View (Clear image rect texel) from (Some p) from' (Some p')
    by false q = refused InvalidValue (drawing_by rect (λ x y. texel) p false q) (drawing_by rect (λ x y. texel) p' false (same_fit p p' rect same ∙ q))
    by true q =
        drawn_on p p' refl refl (drawing_by rect (λ x y. texel) p true q) (drawing_by rect (λ x y. texel) p' true (same_fit p p' rect same ∙ q))
        (subst (Fits (Clear image rect texel)) (sym (own refl)) q) (subst (Fits (Clear image rect texel)) (sym (own' refl)) (same_fit p p' rect same ∙ q))
view (Upload image rect texels) from None from' None is own own' like same = refused InvalidOperation refl refl
view (Upload image rect texels) from None from' (Some p') is own own' like same = absurd same
view (Upload image rect texels) from (Some p) from' None is own own' like same = absurd same
view (Upload image rect texels) from (Some p) from' (Some p') is own own' like same = by (has_rect p rect) refl
  where
    texel : ℕ → ℕ → ℕ
    texel x y = slice_index texels (y * rect.w + x)

    by : (b : Bool) → has_rect p rect ≡ b → View (Upload image rect texels) from (Some p) from' (Some p')
    by false q = refused InvalidValue (drawing_by rect texel p false q) (drawing_by rect texel p' false (same_fit p p' rect same ∙ q))
    by true q =
        drawn_on p p' refl refl (drawing_by rect texel p true q) (drawing_by rect texel p' true (same_fit p p' rect same ∙ q))
        (subst (Fits (Upload image rect texels)) (sym (own refl)) q) (subst (Fits (Upload image rect texels)) (sym (own' refl)) (same_fit p p' rect same ∙ q))
view (Copy source sx sy other dx dy w h) None to None to' is own own' like same = refused InvalidOperation refl refl
view (Copy source sx sy other dx dy w h) None to (Some f') to' is own own' like same = absurd like
view (Copy source sx sy other dx dy w h) (Some f) to None to' is own own' like same = absurd like
view (Copy source sx sy other dx dy w h) (Some f) None (Some f') None is own own' like same = refused InvalidOperation refl refl
view (Copy source sx sy other dx dy w h) (Some f) None (Some f') (Some p') is own own' like same = absurd same
view (Copy source sx sy other dx dy w h) (Some f) (Some p) (Some f') None is own own' like same = absurd same
view (Copy source sx sy other dx dy w h) (Some f) (Some p) (Some f') (Some p') is own own' like same = by (has_rect f from && has_rect p rect) refl
  where
    op : Op
    op = Copy source sx sy other dx dy w h

    rect : Rect
    rect = rectangle dx dy w h

    from : Rect
    from = rectangle sx sy w h

    both : (has_rect f' from && has_rect p' rect) ≡ (has_rect f from && has_rect p rect)
    both = λ i. same_fit f f' from like i && same_fit p p' rect same i

    by : (b : Bool) → (has_rect f from && has_rect p rect) ≡ b → View op (Some f) (Some p) (Some f') (Some p')
    by false q = refused InvalidValue (copying_by sx sy rect f p false q) (copying_by sx sy rect f' p' false (both ∙ q))
    by true q =
        drawn_on p p' refl refl (copying_by sx sy rect f p true q) (copying_by sx sy rect f' p' true (both ∙ q))
        (and_parts (has_rect f from) (has_rect p rect) q).0 (and_parts (has_rect f' from) (has_rect p' rect) (both ∙ q)).0

alike_own : (o : Option Picture) → Alike o o
alike_own None = tt
alike_own (Some p) = (refl, refl)

-- a drawing keeps the sizes of all images
alike_drawn : (op : Op) (images : Sheet) → IsDrawing op → (i : ℕ) → Alike (images i) (drawn op images i)
alike_drawn op images is i = by (view op (images (origin op)) (images (target op)) (images (origin op)) (images (target op)) is (ap images) (ap images) (alike_own (images (origin op))) (alike_own (images (target op))))
  where
    by : View op (images (origin op)) (images (target op)) (images (origin op)) (images (target op)) → Alike (images i) (drawn op images i)
    by (refused answer e e') = subst (λ (end : Result (Option Picture) Answer). Alike (images i) (put images (target op) end i)) (sym e) (alike_own (images i))
    by (drawn_on p p' to to' e e' fits fits') = subst (λ (end : Result (Option Picture) Answer). Alike (images i) (put images (target op) end i)) (sym e) (at (eqb (target op) i) refl)
      where
        new : Picture
        new = redrawn p (rect_of op) (ink op (images (origin op)))

        at : (b : Bool) → eqb (target op) i ≡ b → Alike (images i) (cond b (Some new) (images i))
        at true q =
            subst (λ (o : Option Picture). Alike o (Some new)) (sym (ap images (sym (eqb-true (target op) i q)) ∙ to))
            (sym (width_redrawn p (rect_of op) (ink op (images (origin op)))), sym (height_redrawn p (rect_of op) (ink op (images (origin op)))))
        at false q = alike_own (images i)

-- ---- two drawings

-- what one reads is outside of what the other draws, so the other changes none of its texels
same_ink : (a b : Op) (o : Option Picture) (p : Picture) (texel : ℕ → ℕ → ℕ) → IsDrawing a → Fits a o → o ≡ Some p → overlaps (Part (from_of a)) (Part (rect_of b)) ≡ false
    → (x y : ℕ) → x < (rect_of a).w → y < (rect_of a).h → ink a (Some (redrawn p (rect_of b) texel)) x y ≡ ink a o x y
same_ink (Create image width height) b o p texel is fits found off x y lx ly = absurd is
same_ink (Delete image) b o p texel is fits found off x y lx ly = absurd is
same_ink (Clear image rect value) b o p texel is fits found off x y lx ly = refl
same_ink (Upload image rect texels) b o p texel is fits found off x y lx ly = refl
same_ink (Copy source sx sy other dx dy w h) b o p texel is fits found off x y lx ly =
    let from = rectangle sx sy w h in
    let fit : has_rect p from ≡ true = subst (Fits (Copy source sx sy other dx dy w h)) found fits in
    let parts = and_parts (nat_le (sx + w) p.width) (nat_le (sy + h) p.height) fit in
    let wide = leb-true (sx + w) p.width parts.0 in
    let high = leb-true (sy + h) p.height parts.1 in
    let here = at (sx + x) (sy + y) (omega arith) (omega (arith, lx)) (omega arith) (omega (arith, ly)) in
    texel_outside p (rect_of b) texel (sx + x) (sy + y) (omega (arith, lx, wide)) (omega (arith, ly, high)) (outside (sx + x) (sy + y) here (is_inside (rect_of b) (sx + x) (sy + y)) refl)
    ∙ sym (ap (λ (o : Option Picture). copied_texel o sx sy x y) found)
  where
    at : (x y : ℕ) → sx ≤ x → x < sx + w → sy ≤ y → y < sy + h → is_inside (rectangle sx sy w h) x y ≡ true
    at x y left right top bottom =
        λ i. le-leb sx x left i && lt-ltb x (sx + w) right i && le-leb sy y top i && lt-ltb y (sy + h) bottom i

    outside : (x y : ℕ) → is_inside (rectangle sx sy w h) x y ≡ true → (c : Bool) → is_inside (rect_of b) x y ≡ c → c ≡ false
    outside x y here true q = absurd (no_common (rectangle sx sy w h) (rect_of b) off x y here q)
    outside x y here false q = refl

-- what is read and written by a drawing
areas : (op : Op) → IsDrawing op → ((wrote op).area ≡ Part (rect_of op)) × ((read op).area ≡ Part (from_of op))
areas (Create image width height) is = absurd is
areas (Delete image) is = absurd is
areas (Clear image rect texel) is = (refl, refl)
areas (Copy source sx sy other dx dy w h) is = (refl, refl)
areas (Upload image rect texels) is = (refl, refl)

-- one drawing, and what it is after the other one
record Drawn (a b : Op) (sheet : Sheet) : Type 0 where
  drawing_of : IsDrawing a
  other_drawing : IsDrawing b
  -- what a reads does not overlap what b draws, where both are of one image
  reading : origin a ≡ target b → overlaps (Part (from_of a)) (Part (rect_of b)) ≡ false
  here : Picture
  there : Picture
  found : sheet (target a) ≡ Some here
  found_after : drawn b sheet (target a) ≡ Some there
  end : fate_in a sheet ≡ Ok (Some (redrawn here (rect_of a) (ink a (sheet (origin a)))))
  end_after : fate_in a (drawn b sheet) ≡ Ok (Some (redrawn there (rect_of a) (ink a (drawn b sheet (origin a)))))
  fits : Fits a (sheet (origin a))

module _ (a b : Op) (sheet : Sheet) (one : Drawn a b sheet) (two : Drawn b a sheet) where
  -- with b drawn before, a draws the same texels
  same_texels : (picture : Picture) → redrawn picture (rect_of a) (ink a (drawn b sheet (origin a))) ≡ redrawn picture (rect_of a) (ink a (sheet (origin a)))
  same_texels picture = by (eqb (target b) (origin a)) refl
    where
      by : (c : Bool) → eqb (target b) (origin a) ≡ c → redrawn picture (rect_of a) (ink a (drawn b sheet (origin a))) ≡ redrawn picture (rect_of a) (ink a (sheet (origin a)))
      by true q =
          let same : target b ≡ origin a = eqb-true (target b) (origin a) q in
          let after : drawn b sheet (origin a) ≡ Some (redrawn two.here (rect_of b) (ink b (sheet (origin b)))) =
          ap (λ (end : Result (Option Picture) Answer). put sheet (target b) end (origin a)) two.end ∙ ap (λ (c : Bool). cond c (Some (redrawn two.here (rect_of b) (ink b (sheet (origin b))))) (sheet (origin a))) q in
          let found : sheet (origin a) ≡ Some two.here = ap sheet (sym same) ∙ two.found in
          ap (λ (o : Option Picture). redrawn picture (rect_of a) (ink a o)) after
          ∙ redrawn_same picture (rect_of a) (ink a (Some (redrawn two.here (rect_of b) (ink b (sheet (origin b)))))) (ink a (sheet (origin a)))
          (same_ink a b (sheet (origin a)) two.here (ink b (sheet (origin b))) one.drawing_of one.fits found (one.reading (sym same)))
      by false q = ap (λ (o : Option Picture). redrawn picture (rect_of a) (ink a o)) (ap (λ (end : Result (Option Picture) Answer). put sheet (target b) end (origin a)) two.end ∙ ap (λ (c : Bool). cond c (Some (redrawn two.here (rect_of b) (ink b (sheet (origin b))))) (sheet (origin a))) q)

  -- on another image than b
  same_picture : (target a ≡ target b → ⊥) → one.there ≡ one.here
  same_picture apart =
      let kept : drawn b sheet (target a) ≡ sheet (target a) = put_other sheet (target b) (target a) (fate_in b sheet) (λ e. apart (sym e)) in
      let both : Some one.there ≡ Some one.here = sym one.found_after ∙ kept ∙ one.found in
      cc

  -- on the same image as b
  there_is : target a ≡ target b → one.there ≡ redrawn two.here (rect_of b) (ink b (sheet (origin b)))
  there_is same =
      let after : drawn b sheet (target a) ≡ Some (redrawn two.here (rect_of b) (ink b (sheet (origin b)))) =
      ap (drawn b sheet) same ∙ ap (λ (end : Result (Option Picture) Answer). put sheet (target b) end (target b)) two.end ∙ put_own sheet (target b) (Some (redrawn two.here (rect_of b) (ink b (sheet (origin b))))) in
      let both : Some one.there ≡ Some (redrawn two.here (rect_of b) (ink b (sheet (origin b)))) = sym one.found_after ∙ after in
      cc

-- both are drawn in any order
module _ (a b : Op) (sheet : Sheet) (one : Drawn a b sheet) (two : Drawn b a sheet) where
  on_both : (target a ≡ target b → overlaps (Part (rect_of a)) (Part (rect_of b)) ≡ false) → Commute a b sheet
  on_both disjoint = record {
    images =
        ap (put (drawn a sheet) (target b)) two.end_after ∙ (λ i. λ n. put (put sheet (target a) (one.end i)) (target b) (Ok (Some B')) n)
        ∙ (λ i. λ n. at n (eqb (target a) n) refl (eqb (target b) n) refl i)
        ∙ sym (ap (put (drawn b sheet) (target a)) one.end_after ∙ (λ i. λ n. put (put sheet (target b) (two.end i)) (target a) (Ok (Some A')) n));
    first = ap answer_of one.end_after ∙ sym (ap answer_of one.end);
    second = ap answer_of two.end_after ∙ sym (ap answer_of two.end);
  }
    where
      A : Picture
      A = redrawn one.here (rect_of a) (ink a (sheet (origin a)))

      A' : Picture
      A' = redrawn one.there (rect_of a) (ink a (drawn b sheet (origin a)))

      B : Picture
      B = redrawn two.here (rect_of b) (ink b (sheet (origin b)))

      B' : Picture
      B' = redrawn two.there (rect_of b) (ink b (drawn a sheet (origin b)))

      alone : (target a ≡ target b → ⊥) → A ≡ A'
      alone apart = ap (λ (p : Picture). redrawn p (rect_of a) (ink a (sheet (origin a)))) (sym (same_picture a b sheet one two apart)) ∙ sym (same_texels a b sheet one two one.there)

      alone_too : (target a ≡ target b → ⊥) → B' ≡ B
      alone_too apart = same_texels b a sheet two one two.there ∙ ap (λ (p : Picture). redrawn p (rect_of b) (ink b (sheet (origin b)))) (same_picture b a sheet two one (λ e. apart (sym e)))

      together : target a ≡ target b → B' ≡ A'
      together same =
          let here : Some one.here ≡ Some two.here = sym one.found ∙ ap sheet same ∙ two.found in
          let is : one.here ≡ two.here = cc in
          same_texels b a sheet two one two.there
          ∙ ap (λ (p : Picture). redrawn p (rect_of b) (ink b (sheet (origin b)))) (there_is b a sheet two one (sym same))
          ∙ redrawn_swap one.here (rect_of a) (rect_of b) (ink a (sheet (origin a))) (ink b (sheet (origin b))) (no_common (rect_of a) (rect_of b) (disjoint same))
          ∙ ap (λ (p : Picture). redrawn (redrawn p (rect_of b) (ink b (sheet (origin b)))) (rect_of a) (ink a (sheet (origin a)))) is
          ∙ ap (λ (p : Picture). redrawn p (rect_of a) (ink a (sheet (origin a)))) (sym (there_is a b sheet one two same))
          ∙ sym (same_texels a b sheet one two one.there)

      at : (n : ℕ) (c : Bool) → eqb (target a) n ≡ c → (d : Bool) → eqb (target b) n ≡ d
          → cond d (Some B') (cond c (Some A) (sheet n)) ≡ cond c (Some A') (cond d (Some B) (sheet n))
      at n true p true q = ap Some (together (eqb-true (target a) n p ∙ sym (eqb-true (target b) n q)))
      at n true p false q = ap Some (alone (λ same. eqb-false (target b) n q (sym same ∙ eqb-true (target a) n p)))
      at n false p true q = ap Some (alone_too (λ same. eqb-false (target a) n p (same ∙ eqb-true (target b) n q)))
      at n false p false q = refl

-- ---- any two operations

module _ (a b : Op) (sheet : Sheet) (areas_free : Free a b) where
  draws : IsDrawing a → IsDrawing b → Commute a b sheet
  draws da db = by (seen a b da db) (seen b a db da)
    where
      seen : (a b : Op) → IsDrawing a → IsDrawing b → View a (sheet (origin a)) (sheet (target a)) (drawn b sheet (origin a)) (drawn b sheet (target a))
      seen a b da db =
          view a (sheet (origin a)) (sheet (target a)) (drawn b sheet (origin a)) (drawn b sheet (target a)) da (ap sheet) (ap (drawn b sheet))
          (alike_drawn b sheet db (origin a)) (alike_drawn b sheet db (target a))

      wa : ((wrote a).image ≡ target a) × ((wrote a).writes ≡ true) × ((read a).image ≡ origin a)
      wa = wrote_target a

      wb : ((wrote b).image ≡ target b) × ((wrote b).writes ≡ true) × ((read b).image ≡ origin b)
      wb = wrote_target b

      disjoint : target a ≡ target b → overlaps (Part (rect_of a)) (Part (rect_of b)) ≡ false
      disjoint same =
          (λ i. overlaps (sym (areas a da).0 i) (sym (areas b db).0 i))
          ∙ parted (wrote a) (wrote b) areas_free.both (wa.0 ∙ same ∙ sym wb.0) (or_left (wrote a).writes (wrote b).writes wa.1)

      reads_a : origin a ≡ target b → overlaps (Part (from_of a)) (Part (rect_of b)) ≡ false
      reads_a same =
          (λ i. overlaps (sym (areas a da).1 i) (sym (areas b db).0 i))
          ∙ parted (read a) (wrote b) areas_free.second (wa.2 ∙ same ∙ sym wb.0) (or_right (read a).writes (wrote b).writes wb.1)

      turned : (r q : Rect) → overlaps (Part r) (Part q) ≡ overlaps (Part q) (Part r)
      turned r q = λ i. meet_turned r.x r.w q.x q.w i && meet_turned r.y r.h q.y q.h i

      reads_b : origin b ≡ target a → overlaps (Part (from_of b)) (Part (rect_of a)) ≡ false
      reads_b same =
          turned (from_of b) (rect_of a)
          ∙ (λ i. overlaps (sym (areas a da).0 i) (sym (areas b db).1 i))
          ∙ parted (wrote a) (read b) areas_free.first (wa.0 ∙ sym same ∙ sym wb.2) (or_left (wrote a).writes (read b).writes wa.1)

      by : View a (sheet (origin a)) (sheet (target a)) (drawn b sheet (origin a)) (drawn b sheet (target a)) → View b (sheet (origin b)) (sheet (target b)) (drawn a sheet (origin b)) (drawn a sheet (target b)) → Commute a b sheet
      by (refused answer e e') other =
          let none : drawn a sheet ≡ sheet = ap (put sheet (target a)) e in
          let none_after : drawn a (drawn b sheet) ≡ drawn b sheet = ap (put (drawn b sheet) (target a)) e' in
          record {
            images = ap (drawn b) none ∙ sym none_after;
            first = ap answer_of e' ∙ sym (ap answer_of e);
            second = ap (λ (s : Sheet). answer_of (fate_in b s)) none;
          }
      by (drawn_on p p' to to' e e' fits fits') (refused answer f f') =
          let none : drawn b sheet ≡ sheet = ap (put sheet (target b)) f in
          let none_after : drawn b (drawn a sheet) ≡ drawn a sheet = ap (put (drawn a sheet) (target b)) f' in
          record {
            images = none_after ∙ sym (ap (drawn a) none);
            first = ap (λ (s : Sheet). answer_of (fate_in a s)) none;
            second = ap answer_of f' ∙ sym (ap answer_of f);
          }
      by (drawn_on p p' to to' e e' fits fits') (drawn_on q q' into into' f f' has has') =
          on_both a b sheet
          record { drawing_of = da; other_drawing = db; reading = reads_a; here = p; there = p'; found = to; found_after = to'; end = e; end_after = e'; fits = fits }
          record { drawing_of = db; other_drawing = da; reading = reads_b; here = q; there = q'; found = into; found_after = into'; end = f; end_after = f'; fits = has }
          disjoint

  -- where one of the two touches the whole of its image, the other one is of other images
  whole_first : (wrote a).area ≡ Whole → (read a).area ≡ Whole → Commute a b sheet
  whole_first w r =
      let wa = wrote_target a in
      let wb = wrote_target b in
      apart_images a b sheet
      (λ e. differ (wrote a) (wrote b) areas_free.both (ap (λ (x : Area). overlaps x (wrote b).area) w) (or_left (wrote a).writes (wrote b).writes wa.1) (wa.0 ∙ e ∙ sym wb.0))
      (λ e. differ (wrote a) (read b) areas_free.first (ap (λ (x : Area). overlaps x (read b).area) w) (or_left (wrote a).writes (read b).writes wa.1) (wa.0 ∙ e ∙ sym wb.2))
      (λ e. differ (read a) (wrote b) areas_free.second (ap (λ (x : Area). overlaps x (wrote b).area) r) (or_right (read a).writes (wrote b).writes wb.1) (wa.2 ∙ e ∙ sym wb.0))

  whole_second : (wrote b).area ≡ Whole → (read b).area ≡ Whole → Commute a b sheet
  whole_second w r =
      let wa = wrote_target a in
      let wb = wrote_target b in
      apart_images a b sheet
      (λ e. differ (wrote a) (wrote b) areas_free.both (whole_over (wrote a).area (wrote b).area w) (or_left (wrote a).writes (wrote b).writes wa.1) (wa.0 ∙ e ∙ sym wb.0))
      (λ e. differ (wrote a) (read b) areas_free.first (whole_over (wrote a).area (read b).area r) (or_left (wrote a).writes (read b).writes wa.1) (wa.0 ∙ e ∙ sym wb.2))
      (λ e. differ (read a) (wrote b) areas_free.second (whole_over (read a).area (wrote b).area w) (or_right (read a).writes (wrote b).writes wb.1) (wa.2 ∙ e ∙ sym wb.0))

-- an operation is a drawing, or it touches the whole of its image
kind : (op : Op) → IsDrawing op ⊎ (((wrote op).area ≡ Whole) × ((read op).area ≡ Whole))
kind (Create image width height) = inr (refl, refl)
kind (Delete image) = inr (refl, refl)
kind (Clear image rect texel) = inl tt
kind (Copy source sx sy other dx dy w h) = inl tt
kind (Upload image rect texels) = inl tt

pub commute : (a b : Op) (sheet : Sheet) → AreFree a b → Commute a b sheet
commute a b sheet none = by (kind a) (kind b)
  where
    by : IsDrawing a ⊎ (((wrote a).area ≡ Whole) × ((read a).area ≡ Whole)) → IsDrawing b ⊎ (((wrote b).area ≡ Whole) × ((read b).area ≡ Whole)) → Commute a b sheet
    by (inr w) k = whole_first a b sheet (free a b none) w.0 w.1
    by (inl da) (inr w) = whole_second a b sheet (free a b none) w.0 w.1
    by (inl da) (inl db) = draws a b sheet (free a b none) da db
