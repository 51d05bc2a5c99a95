-- Sums over streams.
use Rattle.std.proofs.Common.{◌≡◌, ◌≢◌, ℕ, zero, suc, ◌+◌, ◌≤◌, ◌<◌, List, [], ◌∷◌, length, refl, arith}
use Rattle.std.specs.Prelude.{sum_by, slice_index_or}
use Rattle.std.proofs.lemmas.List.Sums.{sum_by-cons}

-- the sum of the first n values
abbrev pub total : ℕ → (ℕ → ℕ) → ℕ
total zero f = 0
total (suc n) f = f 0 + total n (λ k. f (suc k))

pub total_zero : (n : ℕ) (f : ℕ → ℕ) → ((k : ℕ) → f k ≡ 0) → total n f ≡ 0
total_zero zero f h = refl
total_zero (suc n) f h = let r = total_zero n (λ k. f (suc k)) (λ k. h (suc k)) in let z = h 0 in omega (arith, r, z)

total_same : (n : ℕ) (f g : ℕ → ℕ) → ((k : ℕ) → g k ≡ f k) → total n g ≡ total n f
total_same zero f g h = refl
total_same (suc n) f g h = let r = total_same n (λ k. f (suc k)) (λ k. g (suc k)) (λ k. h (suc k)) in let z = h 0 in omega (arith, r, z)

-- where one value is greater by one, so is the sum
pub total_more : (n i : ℕ) (f g : ℕ → ℕ) → i < n → g i ≡ f i + 1 → ((k : ℕ) → k ≢ i → g k ≡ f k) → total n g ≡ total n f + 1
total_more zero i f g lt own others = absurd (omega arith)
total_more (suc n) zero f g lt own others = let r = total_same n (λ k. f (suc k)) (λ k. g (suc k)) (λ k. others (suc k) (λ e. absurd (omega arith))) in omega (arith, r, own)
total_more (suc n) (suc i) f g lt own others =
    let r = total_more n i (λ k. f (suc k)) (λ k. g (suc k)) (omega arith) own (λ k d. others (suc k) (λ e. d (omega arith))) in
    let z = others 0 (λ e. absurd (omega arith)) in
    omega (arith, r, z)

-- where each value is at most that of an element, the sum is at most that over the list
pub total_within : {X : Type 0} (most : X → ℕ) (xs : List X) (d : X) (f : ℕ → ℕ) → ((k : ℕ) → k < length xs → f k ≤ most (slice_index_or xs k d)) → total (length xs) f ≤ sum_by most xs
total_within most [] d f h = omega arith
total_within most (x ∷ xs) d f h =
    let r = total_within most xs d (λ k. f (suc k)) (λ k lt. h (suc k) (omega arith)) in
    let z = h 0 (omega arith) in
    let s = sum_by-cons most x xs in
    omega (arith, r, z, s)
