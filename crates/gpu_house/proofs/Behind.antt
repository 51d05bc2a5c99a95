-- The marks of flushes: a queue holds those of some flushes that follow one another.
use Rattle.std.proofs.Common.{◌≡◌, ℕ, zero, suc, ◌+◌, ◌≤◌, ◌<◌, List, [], ◌∷◌, ◌++◌, length, take, drop, map, Option, Some, None, refl, sym, ap, ◌∙◌, arith, option_map, unwrap_or}
use Rattle.std.specs.Prelude.{slice_get, MatchOption}
use Rattle.std.proofs.lemmas.List.{drop_more, take_more, drop-append-le, map-append, length-take-le}
use Rattle.std.proofs.lemmas.Option.{slice_get_within, get_or_from_slice_get}
use Rattle.gpu_plan.specs.Plans.{PlanData}
use Rattle.gpu_plan.specs.Places.{flush_places, mark_of}
use Rattle.gpu_plan.specs.Passes.{flushes}
use Rattle.serial_laws.proofs.Flushes.{flushes_before, below_place}
use Rattle.gpu_house.specs.Slots.{marks_between}

pub mark_at : (plan : PlanData) (flush place : ℕ) → slice_get (flush_places plan.actions) flush ≡ Some place → mark_of plan flush ≡ place + 1
mark_at plan flush place e = ap (λ (at : Option ℕ). unwrap_or (option_map suc at) (length plan.actions)) e ∙ (let one : suc place ≡ place + 1 = omega arith in one)

-- the mark of the next flush is no smaller
pub mark_rises : (plan : PlanData) (flush place : ℕ) → slice_get (flush_places plan.actions) flush ≡ Some place → place + 1 ≤ mark_of plan (flush + 1)
mark_rises plan flush place e = by (slice_get (flush_places plan.actions) (flush + 1)) refl
  where
    before : (flushes (take place plan.actions) ≤ flush) × (place < length plan.actions)
    before = flushes_before plan.actions flush place e

    by : (next : Option ℕ) → slice_get (flush_places plan.actions) (flush + 1) ≡ next → place + 1 ≤ unwrap_or (option_map suc next) (length plan.actions)
    by None q = let end = before.1 in omega arith
    by (Some further) q =
        let few = before.0 in
        let not_less : further < place → ⊥ = λ less. let more = below_place plan.actions (flush + 1) further place q less in absurd (omega arith) in
        omega arith

-- ---- a list of places in part

module _ {X : Type 0} where
  get_taken : (xs : List X) (from upto : ℕ) (x : X) → from < upto → slice_get xs from ≡ Some x → slice_get (take upto xs) from ≡ Some x
  get_taken [] from upto x lt e = absurd (cc)
  get_taken (y ∷ ys) zero zero x lt e = absurd (omega arith)
  get_taken (y ∷ ys) zero (suc upto) x lt e = e
  get_taken (y ∷ ys) (suc from) zero x lt e = absurd (omega arith)
  get_taken (y ∷ ys) (suc from) (suc upto) x lt e = get_taken ys from upto x (omega arith) e

  drop_at : (xs : List X) (k : ℕ) (x : X) → slice_get xs k ≡ Some x → drop k xs ≡ x ∷ drop (k + 1) xs
  drop_at xs k x e = drop_more xs k x (slice_get_within xs k x e) ∙ ap (λ y. y ∷ drop (k + 1) xs) (get_or_from_slice_get xs k x x e)

-- the first of the marks between two numbers
pub between_first : (plan : PlanData) (from upto place : ℕ) → from < upto → slice_get (flush_places plan.actions) from ≡ Some place → marks_between plan from upto ≡ suc place ∷ marks_between plan (from + 1) upto
between_first plan from upto place lt e =
    let places = flush_places plan.actions in
    ap (map suc) (drop_at (take upto places) from place (get_taken places from upto place lt e))

module _ {Note : Type 0} (mark : Note → ℕ) (plan : PlanData) where
  -- a queue begins with the note of its first flush, and the rest is of the further ones
  pub queue_first : (notes : List Note) (from upto place : ℕ) → from < upto → slice_get (flush_places plan.actions) from ≡ Some place → map mark notes ≡ marks_between plan from upto
      → MatchOption (slice_get notes 0) ⊥ (λ note. mark note ≡ place + 1) × (map mark (drop 1 notes) ≡ marks_between plan (from + 1) upto)
  queue_first notes from upto place lt e queued = by notes (queued ∙ between_first plan from upto place lt e)
    where
      by : (list : List Note) → map mark list ≡ suc place ∷ marks_between plan (from + 1) upto → MatchOption (slice_get list 0) ⊥ (λ note. mark note ≡ place + 1) × (map mark (drop 1 list) ≡ marks_between plan (from + 1) upto)
      by [] q = absurd (cc)
      by (note ∷ list) q = ((let is : mark note ≡ suc place = cc in omega (arith, is)), (let rest : map mark list ≡ marks_between plan (from + 1) upto = cc in rest))

  -- the note of the next flush stands after all others
  pub queue_pushed : (notes : List Note) (note : Note) (from upto place : ℕ) → from ≤ upto → slice_get (flush_places plan.actions) upto ≡ Some place → mark note ≡ mark_of plan upto → map mark notes ≡ marks_between plan from upto
      → map mark (notes ++ note ∷ []) ≡ marks_between plan from (upto + 1)
  queue_pushed notes note from upto place low e is queued =
      let places = flush_places plan.actions in
      let within = slice_get_within places upto place e in
      let count = length-take-le upto places (omega arith) in
      let one : mark note ≡ suc place = (let at = mark_at plan upto place e in omega (arith, is, at)) in
      map-append mark notes (note ∷ [])
      ∙ ap (λ (l : List ℕ). l ++ mark note ∷ []) queued
      ∙ ap (λ (m : ℕ). marks_between plan from upto ++ m ∷ []) one
      ∙ sym (map-append suc (drop from (take upto places)) (place ∷ []))
      ∙ ap (map suc) (sym (drop-append-le from (take upto places) (place ∷ []) (omega (arith, low, count))))
      ∙ ap (λ (l : List ℕ). map suc (drop from l)) (sym (take_more places upto place within ∙ ap (λ (m : ℕ). take upto places ++ m ∷ []) (get_or_from_slice_get places upto place place e)))
