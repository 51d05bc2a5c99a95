-- Each kind of step keeps the rule of a book.
use Rattle.std.proofs.Common.{◌≡◌, ◌≢◌, ℕ, zero, suc, List, [], ◌∷◌, set, ⊎_elim, refl, sym, ap, ◌∙◌, subst, arith}
use Rattle.std.proofs.lemmas.List.{set-get_or}
use mathlib.Core.Option.{none, some, some-injective, some-ne-none}
use lib.ListN.{get_elem?}
use Rattle.atomic_table.proofs.Lists.{at_set, at_snoc, set_else, set_again}
use Rattle.atomic_table.specs.Table.{step, keeps, opening, Allows, Splits, Joins}
use Rattle.gpu_books.specs.declared.table.View.{View}
use Rattle.gpu_books.specs.declared.table.View.TheVariants.{Full, Joined, Halved, Spent}
use Rattle.gpu_books.specs.Views.{BookSeat, weight, half_numbers, joined_of, six_zeros, opened, halved, compares, renumbers}
use Rattle.gpu_books.specs.Rule.{weights, HasOnly, KeepsBook}
use Rattle.gpu_books.proofs.Weights.{weights-set, weights-snoc, two_at}

-- a view with the book's numbers has the same ones twice
has_same : (numbers : List ℕ) (v : View) → HasOnly numbers v → half_numbers v ≡ joined_of v
has_same numbers (Full n) h = refl
has_same numbers (Joined n m) h = h.0 ∙ sym h.1
has_same numbers (Halved n) h = refl
has_same numbers Spent h = refl

-- a full view has the book's numbers
full_has : (numbers : List ℕ) (v : View) → weight v ≡ 2 → HasOnly numbers v → half_numbers v ≡ numbers
full_has numbers (Full n) w h = h
full_has numbers (Joined n m) w h = h.0
full_has numbers (Halved n) w h = h
full_has numbers Spent w h = absurd (omega arith)

-- a spent view has any numbers alone
spent_has : (numbers : List ℕ) (v : View) → weight v ≡ 0 → HasOnly numbers v
spent_has numbers (Full n) w = absurd (omega arith)
spent_has numbers (Joined n m) w = absurd (omega arith)
spent_has numbers (Halved n) w = absurd (omega arith)
spent_has numbers Spent w = tt

-- a new book keeps the rule
pub opens : KeepsBook (opening {S = Unit {0}} (0 ∷ []) [] opened)
opens = record { two_halves = refl; numbers = six_zeros; same = only }
  where
    only : (i : ℕ) (v : View) → get_elem? (opened ∷ []) i ≡ some v → HasOnly six_zeros v
    only zero v e = subst (λ (u : View). HasOnly six_zeros u) (some-injective opened v e) refl
    only (suc i) v e = absurd (some-ne-none v (sym e))

-- the join of one half into the other
pub joins : (id : ℕ) (me : BookSeat) (other : ℕ) (note : BookSeat) (n m : List ℕ) → me.0 ≡ Halved n → note.0 ≡ Halved m → Joins KeepsBook id me.0 other note.0 (Joined n m) Spent
joins id me other note n m is is' s kept at ne there =
    let at' : get_elem? s.views id ≡ some (Halved n) = at ∙ ap (λ (v : View). some v) is in
    let there' : get_elem? (set s.views id (Joined n m)) other ≡ some (Halved m) = there ∙ ap (λ (v : View). some v) is' in
    let was : get_elem? s.views other ≡ some (Halved m) = sym (set_else s.views id other (Joined n m) ne) ∙ there' in
    let sum = kept.two_halves in
    let one = weights-set s.views id (Halved n) (Joined n m) at' in
    let two = weights-set (set s.views id (Joined n m)) other (Halved m) Spent there' in
    let both : HasOnly kept.numbers (Joined n m) = (kept.same id (Halved n) at', kept.same other (Halved m) was) in
    record {
      two_halves = omega arith;
      numbers = kept.numbers;
      same = λ j u e. ⊎_elim
          (λ (new : (j ≡ other) × (Spent ≡ u)). subst (λ (v : View). HasOnly kept.numbers v) new.1 tt)
          (λ (old : (j ≢ other) × (get_elem? (set s.views id (Joined n m)) j ≡ some u)). ⊎_elim
          (λ (full : (j ≡ id) × (Joined n m ≡ u)). subst (λ (v : View). HasOnly kept.numbers v) full.1 both)
          (λ (others : (j ≢ id) × (get_elem? s.views j ≡ some u)). kept.same j u others.1)
          (at_set s.views id j (Joined n m) u old.1))
          (at_set (set s.views id (Joined n m)) other j Spent u e);
    }

-- the full view's load
pub loads : (slots id : ℕ) (me : BookSeat) → Allows KeepsBook slots id me 0 (λ n. n) (compares (step slots 0 0 0 none) me)
loads slots id me s kept _ at _ = (
  me.0,
  keeps,
  tt,
  subst (λ (z : List ℕ × List View). KeepsBook (record { words = z.0; homes = s.homes; views = z.1 })) (λ i. (sym (set-get_or s.words 0 0) i, sym (set_again s.views id me.0 at) i)) kept,
  (refl, has_same kept.numbers me.0 (kept.same id me.0 at)),
)

-- the full view gets other numbers, which concerns no other view, since all others are spent
pub renumbered : (slots id : ℕ) (me : BookSeat) (numbers : List ℕ) → weight me.0 ≡ 2 → Allows KeepsBook slots id me 0 (λ n. n) (renumbers numbers (step slots 0 0 0 none) me)
renumbered slots id me numbers full s kept _ at _ =
    let w : View = Full numbers in
    let sum = kept.two_halves in
    let moved = weights-set s.views id me.0 w at in (
      w,
      keeps,
      tt,
      record {
        two_halves = omega arith;
        numbers = numbers;
        same = λ j u e. ⊎_elim
            (λ (mine : (j ≡ id) × (w ≡ u)). subst (λ (v : View). HasOnly numbers v) mine.1 refl)
            (λ (others : (j ≢ id) × (get_elem? s.views j ≡ some u)). spent_has numbers u (let both = two_at s.views id j me.0 u others.0 at others.1 in omega arith))
            (at_set s.views id j w u e);
      },
      refl,
    )

-- the split of a full view into two halves
pub splits : (id : ℕ) (me : BookSeat) → weight me.0 ≡ 2 → Splits KeepsBook id me.0 (halved me.0) (halved me.0)
splits id me full s kept at =
    let h : View = halved me.0 in
    let sum = kept.two_halves in
    let moved = weights-set s.views id me.0 h at in
    let more = weights-snoc (set s.views id h) h in
    let has : HasOnly kept.numbers h = full_has kept.numbers me.0 full (kept.same id me.0 at) in
    record {
      two_halves = omega arith;
      numbers = kept.numbers;
      same = λ j u e. ⊎_elim
          (λ (old : get_elem? (set s.views id h) j ≡ some u). ⊎_elim
          (λ (mine : (j ≡ id) × (h ≡ u)). subst (λ (v : View). HasOnly kept.numbers v) mine.1 has)
          (λ (others : (j ≢ id) × (get_elem? s.views j ≡ some u)). kept.same j u others.1)
          (at_set s.views id j h u old))
          (λ (new : h ≡ u). subst (λ (v : View). HasOnly kept.numbers v) new has)
          (at_snoc (set s.views id h) h u j e);
    }
