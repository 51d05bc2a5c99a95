-- The weights of a book's views as one view changes.
use Rattle.std.proofs.Common.{◌≡◌, ◌≢◌, ℕ, zero, suc, ◌+◌, ◌≤◌, List, [], ◌∷◌, ◌++◌, set, refl, sym, ap, arith}
use mathlib.Core.Option.{some, some-injective, some-ne-none}
use lib.ListN.{get_elem?}
use Rattle.gpu_books.specs.declared.table.View.{View}
use Rattle.gpu_books.specs.Views.{weight}
use Rattle.gpu_books.specs.Rule.{weights}

-- a view takes the place of another
pub weights-set : (l : List View) (i : ℕ) (v w : View) → get_elem? l i ≡ some v → weights (set l i w) + weight v ≡ weights l + weight w
weights-set [] i v w e = absurd (some-ne-none v (sym e))
weights-set (x ∷ xs) zero v w e = let is : weight x ≡ weight v = ap weight (some-injective x v e) in omega arith
weights-set (x ∷ xs) (suc i) v w e = let r = weights-set xs i v w e in omega arith

-- a view comes after the others
pub weights-snoc : (l : List View) (v : View) → weights (l ++ v ∷ []) ≡ weights l + weight v
weights-snoc [] v = omega arith
weights-snoc (x ∷ xs) v = let r = weights-snoc xs v in omega arith

one_at : (l : List View) (i : ℕ) (v : View) → get_elem? l i ≡ some v → weight v ≤ weights l
one_at [] i v e = absurd (some-ne-none v (sym e))
one_at (x ∷ xs) zero v e = let is : weight x ≡ weight v = ap weight (some-injective x v e) in omega arith
one_at (x ∷ xs) (suc i) v e = let r = one_at xs i v e in omega arith

-- two views weigh no more than all
pub two_at : (l : List View) (i j : ℕ) (v w : View) → j ≢ i → get_elem? l i ≡ some v → get_elem? l j ≡ some w → weight v + weight w ≤ weights l
two_at [] i j v w ne e e' = absurd (some-ne-none v (sym e))
two_at (x ∷ xs) zero zero v w ne e e' = absurd (ne refl)
two_at (x ∷ xs) zero (suc j) v w ne e e' = let is : weight x ≡ weight v = ap weight (some-injective x v e) in let r = one_at xs j w e' in omega arith
two_at (x ∷ xs) (suc i) zero v w ne e e' = let is : weight x ≡ weight w = ap weight (some-injective x w e') in let r = one_at xs i v e in omega arith
two_at (x ∷ xs) (suc i) (suc j) v w ne e e' = let r = two_at xs i j v w (λ h. ne (ap suc h)) e e' in omega arith
