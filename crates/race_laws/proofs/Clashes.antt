-- What it says of two operations that what they touch does not clash.
use Rattle.std.proofs.Common.{◌≡◌, ℕ, ◌+◌, ◌<◌, ◌≤◌, eqb, Bool, true, false, ◌&&◌, ◌||◌, max, min, List, [], ◌∷◌, refl, ap, arith}
use Rattle.std.specs.Prelude.{nat_le, nat_lt}
use Rattle.std.specs.List.{list_any}
use Rattle.std.proofs.lemmas.Bool.{and_from, or_parts, both_ways, eq-eqb, leb-true, ltb-true, le-leb, lt-ltb, and_parts}
use Rattle.gpu_store.specs.declared.op.Op.{Op}
use Rattle.gpu_store.specs.declared.op.Op.TheVariants.{Create, Delete, Clear, Copy, Upload}
use Rattle.gpu_store.specs.declared.rect.Rect.{Rect}
use Rattle.gpu_store.specs.Picture.{rectangle, is_inside}
use Rattle.race_laws.specs.Touches.{Area, Whole, Part, Touch, reads_part, writes_part, writes_whole, meet, overlaps, clashes}
use Rattle.race_laws.specs.Laws.{OverlapIsShared}
use Rattle.race_laws.proofs.Sheets.{target, origin}

-- what an operation touches
abbrev pub op_touches : Op → List Touch
op_touches (Create image width height) = writes_whole image ∷ []
op_touches (Delete image) = writes_whole image ∷ []
op_touches (Clear image rect texel) = writes_part image rect ∷ []
op_touches (Copy source sx sy other dx dy w h) = reads_part source (rectangle sx sy w h) ∷ writes_part other (rectangle dx dy w h) ∷ []
op_touches (Upload image rect texels) = writes_part image rect ∷ []

-- what it writes, and what it reads; one that reads nothing stands with what it writes
abbrev pub wrote : Op → Touch
wrote (Create image width height) = writes_whole image
wrote (Delete image) = writes_whole image
wrote (Clear image rect texel) = writes_part image rect
wrote (Copy source sx sy other dx dy w h) = writes_part other (rectangle dx dy w h)
wrote (Upload image rect texels) = writes_part image rect

abbrev pub read : Op → Touch
read (Create image width height) = writes_whole image
read (Delete image) = writes_whole image
read (Clear image rect texel) = writes_part image rect
read (Copy source sx sy other dx dy w h) = reads_part source (rectangle sx sy w h)
read (Upload image rect texels) = writes_part image rect

pub wrote_target : (op : Op) → ((wrote op).image ≡ target op) × ((wrote op).writes ≡ true) × ((read op).image ≡ origin op)
wrote_target (Create image width height) = (refl, refl, refl)
wrote_target (Delete image) = (refl, refl, refl)
wrote_target (Clear image rect texel) = (refl, refl, refl)
wrote_target (Copy source sx sy other dx dy w h) = (refl, refl, refl)
wrote_target (Upload image rect texels) = (refl, refl, refl)

one_false : (a b : Bool) → (a || b) ≡ false → a ≡ false
one_false a b e = (or_parts a b e).0

none_of : (f : Touch → Bool) (op : Op) → list_any f (op_touches op) ≡ false → (f (wrote op) ≡ false) × (f (read op) ≡ false)
none_of f (Create image width height) e = let one = one_false (f (writes_whole image)) false e in (one, one)
none_of f (Delete image) e = let one = one_false (f (writes_whole image)) false e in (one, one)
none_of f (Clear image rect texel) e = let one = one_false (f (writes_part image rect)) false e in (one, one)
none_of f (Copy source sx sy other dx dy w h) e =
    let q = reads_part source (rectangle sx sy w h) in
    let r = writes_part other (rectangle dx dy w h) in
    let both = or_parts (f q) (f r || false) e in
    (one_false (f r) false both.1, both.0)
none_of f (Upload image rect texels) e = let one = one_false (f (writes_part image rect)) false e in (one, one)

-- nothing that one touches clashes with anything that the other touches
abbrev pub AreFree : Op → Op → Type 0
AreFree a b = list_any (λ x. list_any (clashes x) (op_touches b)) (op_touches a) ≡ false

pub record Free (a b : Op) : Type 0 where
  pub both : clashes (wrote a) (wrote b) ≡ false
  pub first : clashes (wrote a) (read b) ≡ false
  pub second : clashes (read a) (wrote b) ≡ false

pub free : (a b : Op) → AreFree a b → Free a b
free a b e =
    let of_a = none_of (λ x. list_any (clashes x) (op_touches b)) a e in
    let write = none_of (clashes (wrote a)) b of_a.0 in
    let reading = none_of (clashes (read a)) b of_a.1 in
    record { both = write.0; first = write.1; second = reading.0 }

-- where two touches overlap and one writes, they are of different images
pub differ : (x y : Touch) → clashes x y ≡ false → overlaps x.area y.area ≡ true → (x.writes || y.writes) ≡ true → x.image ≡ y.image → ⊥
differ x y off over write same =
    both_ways (clashes x y) off (and_from (eqb x.image y.image) _ (eq-eqb x.image y.image same) (and_from (overlaps x.area y.area) (x.writes || y.writes) over write))

-- where they are of one image and one writes, they do not overlap
pub parted : (x y : Touch) → clashes x y ≡ false → x.image ≡ y.image → (x.writes || y.writes) ≡ true → overlaps x.area y.area ≡ false
parted x y off same write = by (overlaps x.area y.area) refl
  where
    by : (b : Bool) → overlaps x.area y.area ≡ b → b ≡ false
    by true over = absurd (differ x y off over write same)
    by false over = refl

-- either way round
pub meet_turned : (a n b m : ℕ) → meet a n b m ≡ meet b m a n
meet_turned a n b m = λ i. nat_lt (most a b i) (least (a + n) (b + m) i)
  where
    most : (a b : ℕ) → max a b ≡ max b a
    most a b = omega arith

    least : (a b : ℕ) → min a b ≡ min b a
    least a b = omega arith

pub whole_over : (a b : Area) → b ≡ Whole → overlaps a b ≡ true
whole_over Whole b is = refl
whole_over (Part r) b is = ap (overlaps (Part r)) is

meets : (a n b m x : ℕ) → a ≤ x → x < a + n → b ≤ x → x < b + m → meet a n b m ≡ true
meets a n b m x since until from end = lt-ltb (max a b) (min (a + n) (b + m)) (omega arith)

-- column x of row y lies in the rectangle
pub record Inside (rect : Rect) (x y : ℕ) : Type 0 where
  pub left : rect.x ≤ x
  pub right : x < rect.x + rect.w
  pub top : rect.y ≤ y
  pub bottom : y < rect.y + rect.h

pub inside : (rect : Rect) (x y : ℕ) → is_inside rect x y ≡ true → Inside rect x y
inside rect x y is =
    let a = nat_le rect.x x in
    let b = nat_lt x (rect.x + rect.w) in
    let c = nat_le rect.y y in
    let d = nat_lt y (rect.y + rect.h) in
    let one = parts a b c d is in
    record { left = leb-true rect.x x one.0; right = ltb-true x (rect.x + rect.w) one.1; top = leb-true rect.y y one.2; bottom = ltb-true y (rect.y + rect.h) one.3 }
  where
    parts : (a b c d : Bool) → (a && b && c && d) ≡ true → (a ≡ true) × (b ≡ true) × (c ≡ true) × (d ≡ true)
    parts true true true true e = (refl, refl, refl, refl)
    parts true true true false e = absurd (cc)
    parts true true false d e = absurd (cc)
    parts true false c d e = absurd (cc)
    parts false b c d e = absurd (cc)

-- rectangles that do not overlap have no common texel
pub no_common : (r q : Rect) → overlaps (Part r) (Part q) ≡ false → (x y : ℕ) → is_inside r x y ≡ true → is_inside q x y ≡ true → ⊥
no_common r q off x y here there =
    let a = inside r x y here in
    let b = inside q x y there in
    both_ways (overlaps (Part r) (Part q)) off
    (and_from (meet r.x r.w q.x q.w) (meet r.y r.h q.y q.h) (meets r.x r.w q.x q.w x a.left a.right b.left b.right) (meets r.y r.h q.y q.h y a.top a.bottom b.top b.bottom))

-- rectangles that overlap have one
meet_parts : (a n b m : ℕ) → meet a n b m ≡ true → (a ≤ max a b) × (max a b < a + n) × (b ≤ max a b) × (max a b < b + m)
meet_parts a n b m is =
    let lt = ltb-true (max a b) (min (a + n) (b + m)) is in
    (omega arith, omega (arith, lt), omega arith, omega (arith, lt))

in_rect : (rect : Rect) (x y : ℕ) → rect.x ≤ x → x < rect.x + rect.w → rect.y ≤ y → y < rect.y + rect.h → is_inside rect x y ≡ true
in_rect rect x y left right top bottom = λ i. le-leb rect.x x left i && lt-ltb x (rect.x + rect.w) right i && le-leb rect.y y top i && lt-ltb y (rect.y + rect.h) bottom i

pub overlap_is_shared : OverlapIsShared
overlap_is_shared r q = (shared, overlapping)
  where
    shared : overlaps (Part r) (Part q) ≡ true → (x : ℕ) × (y : ℕ) × (is_inside r x y ≡ true) × (is_inside q x y ≡ true)
    shared is =
        let both = and_parts (meet r.x r.w q.x q.w) (meet r.y r.h q.y q.h) is in
        let a = meet_parts r.x r.w q.x q.w both.0 in
        let b = meet_parts r.y r.h q.y q.h both.1 in
        (max r.x q.x, max r.y q.y, in_rect r (max r.x q.x) (max r.y q.y) a.0 a.1 b.0 b.1, in_rect q (max r.x q.x) (max r.y q.y) a.2 a.3 b.2 b.3)

    overlapping : ((x : ℕ) × (y : ℕ) × (is_inside r x y ≡ true) × (is_inside q x y ≡ true)) → overlaps (Part r) (Part q) ≡ true
    overlapping at = by (overlaps (Part r) (Part q)) refl
      where
        by : (b : Bool) → overlaps (Part r) (Part q) ≡ b → b ≡ true
        by true is = refl
        by false off = absurd (no_common r q off at.0 at.1 at.2 at.3)
