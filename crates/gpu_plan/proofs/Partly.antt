-- A list of which a first part has been changed, one element after the other.
use Rattle.std.proofs.Common.{◌≡◌, ℕ, zero, suc, ◌+◌, ◌≤◌, ◌<◌, List, [], ◌∷◌, length, map, get_or, set, refl, ap, ◌∙◌, arith}

abbrev pub partly : {X : Type 0} → (X → X) → ℕ → List X → List X
partly f zero xs = xs
partly f (suc i) [] = []
partly f (suc i) (x ∷ xs) = f x ∷ partly f i xs

module _ {X : Type 0} (f : X → X) where
  as_long : (i : ℕ) (xs : List X) → length (partly f i xs) ≡ length xs
  as_long zero xs = refl
  as_long (suc i) [] = refl
  as_long (suc i) (x ∷ xs) = let rest = as_long i xs in omega arith

  all : (i : ℕ) (xs : List X) → length xs ≤ i → partly f i xs ≡ map f xs
  all zero [] h = refl
  all zero (x ∷ xs) h = absurd (omega arith)
  all (suc i) [] h = refl
  all (suc i) (x ∷ xs) h = ap (λ rest. f x ∷ rest) (all i xs (omega arith))

  at : (i : ℕ) (xs : List X) (d : X) → get_or (partly f i xs) i d ≡ get_or xs i d
  at zero xs d = refl
  at (suc i) [] d = refl
  at (suc i) (x ∷ xs) d = at i xs d

  next : (i : ℕ) (xs : List X) (d : X) → i < length xs → set (partly f i xs) i (f (get_or xs i d)) ≡ partly f (suc i) xs
  next zero [] d h = absurd (omega arith)
  next zero (x ∷ xs) d h = refl
  next (suc i) [] d h = absurd (omega arith)
  next (suc i) (x ∷ xs) d h = ap (λ rest. f x ∷ rest) (next i xs d (omega arith))

  pub partly_long : (xs now : List X) (i : ℕ) → now ≡ partly f i xs → length now ≡ length xs
  partly_long xs now i is = ap length is ∙ as_long i xs

  pub partly_at : (xs now : List X) (i : ℕ) (d : X) → now ≡ partly f i xs → get_or now i d ≡ get_or xs i d
  partly_at xs now i d is = ap (λ ys. get_or ys i d) is ∙ at i xs d

  pub partly_goes : (xs now : List X) (i : ℕ) (d new : X) → now ≡ partly f i xs → i < length now → new ≡ f (get_or now i d) → set now i new ≡ partly f (i + 1) xs
  partly_goes xs now i d new is less changed =
      let long = partly_long xs now i is in
      let here = partly_at xs now i d is in
      let more : suc i ≡ i + 1 = omega arith in
      rw (changed, here, is) (next i xs d (omega arith)) ∙ ap (λ k. partly f k xs) more

  pub partly_done : (xs now : List X) (i : ℕ) → now ≡ partly f i xs → length now ≤ i → now ≡ map f xs
  partly_done xs now i is far =
      let long = partly_long xs now i is in
      is ∙ all i xs (omega arith)
