-- What a search among the images finds after a change, and at a place in their order.
use Rattle.std.proofs.Common.{◌≡◌, ◌≢◌, ℕ, ◌<◌, Bool, true, false, cond, Option, Some, None, List, [], ◌∷◌, length, get_or, inl, inr, refl, sym, ap, subst, ◌∙◌, arith}
use Rattle.std.specs.Prelude.{option_map, slice_get}
use Rattle.std.specs.Iterator.{Yields, YieldsFirstBy}
use Rattle.std.specs.Map.{keys_of}
use Rattle.std.specs.BTreeMap.{is_at}
use Rattle.std.specs.Ordering.{nat_cmp}
use Rattle.std.specs.Cmp.{nat_cmp_total, eq_by_cmp_equiv}
use Rattle.std.specs.List.Sorted.{IsStrictlySortedBy}
use Rattle.std.proofs.lemmas.Bool.Decides.{nat_tests}
use Rattle.std.proofs.lemmas.Map.Keys.{IsDistinct-from_sorted}
use Rattle.std.proofs.lemmas.Map.Entries.{lookup_from_place}
use Rattle.std.proofs.lemmas.List.{length-map}
use Rattle.std.proofs.lemmas.Option.{slice_get-map, slice_get-get_or, slice_get_cases}
use Rattle.std.proofs.lemmas.Iterator.Consumers.{YieldsList-from_first, YieldsList-turn, YieldsList-end}
use Rattle.gpu_store.specs.Picture.{Picture}
use Rattle.gpu_store.specs.Images.{Pictures, picture_of, replaced, numbers}

-- a number is found at itself alone
is_at-same : (image number : ℕ) → is_at (nat_cmp image) number ≡ true → image ≡ number
is_at-same image number found = grind (arith, nat_tests)

is_at-other : (image number : ℕ) → image ≢ number → is_at (nat_cmp image) number ≡ false
is_at-other image number apart = grind (arith, nat_tests)

other_head : (image other : ℕ) (entry : ℕ × Picture) (images rest : Pictures) (picture : Picture) → image ≢ other → picture_of rest other ≡ picture_of images other
    → (here : Bool) → is_at (nat_cmp image) entry.0 ≡ here
    → picture_of (cond here ((entry.0, picture) ∷ images) (entry ∷ rest)) other ≡ picture_of (entry ∷ images) other
other_head image other entry images rest picture apart same true here =
    let missed : is_at (nat_cmp other) entry.0 ≡ false = is_at-other other entry.0 (λ at. apart (is_at-same image entry.0 here ∙ sym at)) in
    rw missed refl
other_head image other entry images rest picture apart same false here =
    ap (λ (found : Option Picture). cond (is_at (nat_cmp other) entry.0) (Some entry.1) found) same

-- another image stays when one is replaced
pub picture_of-replaced_other : (image other : ℕ) (images : Pictures) (picture : Picture) → image ≢ other → picture_of (replaced images image picture) other ≡ picture_of images other
picture_of-replaced_other image other [] picture apart = refl
picture_of-replaced_other image other (entry ∷ images) picture apart =
    other_head image other entry images (replaced images image picture) picture apart (picture_of-replaced_other image other images picture apart) (is_at (nat_cmp image) entry.0) refl

twice_head : (image : ℕ) (entry : ℕ × Picture) (images rest last : Pictures) (first second : Picture) → replaced rest image second ≡ last
    → (here : Bool) → is_at (nat_cmp image) entry.0 ≡ here
    → replaced (cond here ((entry.0, first) ∷ images) (entry ∷ rest)) image second ≡ cond here ((entry.0, second) ∷ images) (entry ∷ last)
twice_head image entry images rest last first second same true here = rw here refl
twice_head image entry images rest last first second same false here = rw here (ap (λ (rest : Pictures). entry ∷ rest) same)

-- of two replacements of one image the later counts
pub replaced-replaced : (images : Pictures) (image : ℕ) (first second : Picture) → replaced (replaced images image first) image second ≡ replaced images image second
replaced-replaced [] image first second = refl
replaced-replaced (entry ∷ images) image first second =
    twice_head image entry images (replaced images image first) (replaced images image second) first second (replaced-replaced images image first second) (is_at (nat_cmp image) entry.0) refl

-- the image at a place in the order is the one of the number that stands there
pub picture_of-number : (images : Pictures) (place number : ℕ) → IsStrictlySortedBy nat_cmp (keys_of images) → slice_get (numbers images) place ≡ Some number
    → picture_of images number ≡ option_map (λ entry. entry.1) (slice_get images place)
picture_of-number images place number sorted stands =
    at_place (slice_get images place) refl (sym (slice_get-map (λ (entry : ℕ × Picture). entry.0) images place) ∙ stands)
  where
    at_place : (found : Option (ℕ × Picture)) → slice_get images place ≡ found → option_map (λ entry. entry.0) found ≡ Some number
        → picture_of images number ≡ option_map (λ entry. entry.1) found
    at_place None found named = cc
    at_place (Some entry) found named =
        let same : entry.0 ≡ number = cc in
        subst (λ (number : ℕ). picture_of images number ≡ Some entry.1) same
        (lookup_from_place (eq_by_cmp_equiv nat_cmp_total) images place entry.0 entry.1 (IsDistinct-from_sorted nat_cmp (keys_of images) sorted) found)

pub length-numbers : (images : Pictures) → length (numbers images) ≡ length images
length-numbers images = length-map images (λ (entry : ℕ × Picture). entry.0)

-- the entry that stands at this place in the order, whose number this is
pub record Stands (images : Pictures) (place number : ℕ) : Type 0 where
  pub within : place < length images
  pub entry : ℕ × Picture
  pub shown : picture_of images number ≡ Some entry.1
  pub same : number ≡ entry.0
  pub there : get_or images place entry ≡ entry

-- what stands at a place of the images
pub entry_there : (images : Pictures) (place number : ℕ) → IsStrictlySortedBy nat_cmp (keys_of images) → place < length images → slice_get (numbers images) place ≡ Some number → Stands images place number
entry_there images place number sorted lt stands =
    elim ((slice_get_cases images place).1) [
      | inl here ↦
          let entry = here.0 in
          let keyed : slice_get (numbers images) place ≡ Some entry.0 = slice_get-map (λ (e : ℕ × Picture). e.0) images place ∙ ap (option_map (λ (e : ℕ × Picture). e.0)) here.2 in
          let named : number ≡ entry.0 = cc in
          let found : picture_of images number ≡ Some entry.1 = picture_of-number images place number sorted stands ∙ ap (option_map (λ (e : ℕ × Picture). e.1)) here.2 in
          record { within = lt; entry = entry; shown = found; same = named; there = here.3 }
      | inr past ↦ absurd (omega arith)
    ]

-- ---- a walk over the numbers of all images

module _ (images : Pictures) (start yielded left : List ℕ) (all : start ≡ numbers images) (walked : Yields (YieldsFirstBy (λ (n : ℕ). n) (λ (s : List ℕ). s)) start yielded left)
    (next : Option ℕ) (after : List ℕ) (step : YieldsFirstBy (λ (n : ℕ). n) (λ (s : List ℕ). s) left next after) where
  -- the number at hand is the one at the place that the walk has come to
  pub number_stands : (number : ℕ) → next ≡ Some number → IsStrictlySortedBy nat_cmp (keys_of images) → Stands images (length yielded) number
  number_stands number is sorted =
      let turn = YieldsList-turn (YieldsList-from_first (λ (n : ℕ). n) (λ (s : List ℕ). s) (numbers images) all) yielded left walked next after number is step in
      let count = length-numbers images in
      entry_there images (length yielded) number sorted (omega (arith, count, turn.0)) (slice_get-get_or (numbers images) (length yielded) number turn.0 ∙ ap Some (sym turn.1))

  -- at its end it has come past all images
  pub numbers_end : next ≡ None → length yielded ≡ length images
  numbers_end is = (YieldsList-end (YieldsList-from_first (λ (n : ℕ). n) (λ (s : List ℕ). s) (numbers images) all) yielded left walked next after is step).1 ∙ length-numbers images
