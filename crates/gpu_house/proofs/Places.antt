-- What stands at one place of a row.
use Rattle.std.proofs.Common.{◌≡◌, ◌≢◌, ℕ, zero, suc, ◌<◌, Option, Some, None, List, [], ◌∷◌, length, get_or, set, refl, sym, ap, subst, ◌∙◌, arith, length-set}
use Rattle.std.specs.Prelude.{IfSome, slice_get}
use Rattle.std.specs.Option.{IsSomeAnd}
use Rattle.std.proofs.lemmas.List.{get_or-set_same, set-get_or}
use Rattle.std.proofs.lemmas.Option.{slice_get-get_or}

module _ {X : Type 0} where
  pub slice_get-set_same : (xs : List X) (i : ℕ) (x : X) → i < length xs → slice_get (set xs i x) i ≡ Some x
  slice_get-set_same xs i x lt = slice_get-get_or (set xs i x) i x (let len = length-set xs i x in omega (arith, lt, len)) ∙ ap (λ (y : X). Some y) (get_or-set_same xs i x x lt)

  pub slice_get-set_other : (xs : List X) (i j : ℕ) (x : X) → j ≢ i → slice_get (set xs i x) j ≡ slice_get xs j
  slice_get-set_other [] i j x apart = refl
  slice_get-set_other (y ∷ xs) zero zero x apart = absurd (apart refl)
  slice_get-set_other (y ∷ xs) zero (suc j) x apart = refl
  slice_get-set_other (y ∷ xs) (suc i) zero x apart = refl
  slice_get-set_other (y ∷ xs) (suc i) (suc j) x apart = slice_get-set_other xs i j x (λ same. apart (omega (arith, same)))

  -- what holds of the new value holds of what stands at its place
  pub set_has : (P : X → Type 0) (xs : List X) (i : ℕ) (x : X) → i < length xs → P x → IsSomeAnd (slice_get (set xs i x) i) P
  set_has P xs i x lt here = subst (λ o. IsSomeAnd o P) (sym (slice_get-set_same xs i x lt)) here

  -- what holds of what stands at a place holds of what was read there
  pub read_has : (P : X → Type 0) (xs : List X) (i : ℕ) (x : X) → i < length xs → x ≡ get_or xs i x → IfSome (slice_get xs i) P → P x
  read_has P xs i x lt read has = subst P (sym read) (subst (λ o. IfSome o P) (slice_get-get_or xs i x lt) has)

  -- what was read at a place and is put there again changes nothing
  pub set_back : (xs : List X) (i : ℕ) (x : X) → x ≡ get_or xs i x → set xs i x ≡ xs
  set_back xs i x read = ap (set xs i) read ∙ set-get_or xs i x

  -- what holds of each that may be read at a place of the row holds of what stands there
  pub each_has : (P : X → Type 0) (xs : List X) (i : ℕ) → i < length xs → ((d : X) → P (get_or xs i d)) → IsSomeAnd (slice_get xs i) P
  each_has P [] i lt each = absurd (omega (arith, lt))
  each_has P (x ∷ xs) zero lt each = each x
  each_has P (x ∷ xs) (suc i) lt each = each_has P xs i (omega (arith, lt)) each

  -- what holds of a value that is there holds of one where there is one
  pub if_there : (P : X → Type 0) (found : Option X) → IsSomeAnd found P → IfSome found P
  if_there P None has = tt
  if_there P (Some x) has = has
