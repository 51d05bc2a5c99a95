-- Words that are fetched by two memories which agree where both are read.
use Rattle.std.proofs.Common.{◌≡◌, ℕ, zero, suc, ◌<◌, ◌≤◌, Bool, true, false, eqb, cond, Result, Ok, Err, List, [], ◌∷◌, ◌++◌, map, refl, sym, ap, subst, ◌∙◌, ⊎_elim, arith, IsOkAnd}
use Rattle.std.specs.List.{AllByRecursion, range_with_len}
use Rattle.std.proofs.lemmas.Bool.{cases_lt, eqb-true, eq-eqb, both_ways}
use Rattle.gpu_cmd.specs.declared.error.CmdError.{CmdError}
use Rattle.gpu_cmd.specs.declared.facts.StreamFacts.{StreamFacts}
use Rattle.gpu_cmd.specs.declared.shape.Shape.{Shape}
use Rattle.gpu_cmd.specs.Checks.{headed, decoded}
use Rattle.gpu_cmd.specs.Copied.{fetched_places, places_read, places_headed, places_decoded, ring_places, value_in, places_listed}
use Rattle.gpu_cmd.proofs.Heads.{headed_some}
use Rattle.gpu_cmd.proofs.Copies.{places_out, places_in}

-- each word is so
abbrev pub Each : (ℕ → ℕ → Type 0) → List (ℕ × ℕ) → Type 0
Each P words = AllByRecursion (λ word. P word.0 word.1) words

front : (P : ℕ → Type 0) (xs ys : List ℕ) → AllByRecursion P (xs ++ ys) → AllByRecursion P xs
front P [] ys h = tt
front P (x ∷ xs) ys h = (h.0, front P xs ys h.1)

first_of : (P : ℕ → Type 0) (first count : ℕ) → 0 < count → AllByRecursion P (range_with_len first count) → P first
first_of P first zero h a = absurd (omega arith)
first_of P first (suc count) h a = a.0

module _ (P Q : ℕ → Type 0) (m n : ℕ → ℕ) (facts : StreamFacts) (agree : (i : ℕ) → P i → Q i → m i ≡ n i) where
  same_values : (places : List ℕ) → AllByRecursion P places → AllByRecursion Q places → map m places ≡ map n places
  same_values [] a b = refl
  same_values (i ∷ places) a b = let one : m i ≡ n i = agree i a.0 b.0 in let rest = same_values places a.1 b.1 in cc

  head_there : (R : ℕ → Type 0) (o : ℕ → ℕ) (head : Result Shape CmdError) → headed (o facts.get) facts ≡ head → AllByRecursion R (places_headed o facts head) → R facts.get
  head_there R o (Err error) e a = a.0
  head_there R o (Ok shape) e a =
      let passed : IsOkAnd (headed (o facts.get) facts) (λ s. shape.ring_words ≡ s.ring_words) = rw e refl in
      first_of R facts.get shape.ring_words (headed_some (o facts.get) facts shape.ring_words passed) (front R (ring_places facts shape) (places_decoded (decoded (map o (ring_places facts shape)) facts)) a)

  same_behind : (head : Result Shape CmdError) → AllByRecursion P (places_headed m facts head) → AllByRecursion Q (places_headed n facts head) → places_headed m facts head ≡ places_headed n facts head
  same_behind (Err error) a b = refl
  same_behind (Ok shape) a b =
      let ring = ring_places facts shape in
      ap (λ xs. ring ++ places_decoded (decoded xs facts)) (same_values ring (front P ring (places_decoded (decoded (map m ring) facts)) a) (front Q ring (places_decoded (decoded (map n ring) facts)) b))

  -- where both agree at the places at which both are read, the places are the same
  pub same_places : AllByRecursion P (places_read m facts) → AllByRecursion Q (places_read n facts) → places_read m facts ≡ places_read n facts
  same_places a b = ⊎_elim in_range out_of_range (cases_lt facts.put facts.areas.ring)
    where
      in_range : facts.put < facts.areas.ring → places_read m facts ≡ places_read n facts
      in_range r =
          let a' = subst (AllByRecursion P) (places_in m facts r) a in
          let b' = subst (AllByRecursion Q) (places_in n facts r) b in
          let first : m facts.get ≡ n facts.get = agree facts.get (head_there P m (headed (m facts.get) facts) refl a') (head_there Q n (headed (n facts.get) facts) refl b') in
          let head : headed (m facts.get) facts ≡ headed (n facts.get) facts = ap (λ v. headed v facts) first in
          places_in m facts r ∙ ap (places_headed m facts) head
          ∙ same_behind (headed (n facts.get) facts) (subst (λ (o : Result Shape CmdError). AllByRecursion P (places_headed m facts o)) head a') b'
          ∙ sym (places_in n facts r)

      out_of_range : facts.areas.ring ≤ facts.put → places_read m facts ≡ places_read n facts
      out_of_range r = places_out m facts r ∙ sym (places_out n facts r)

-- what holds of each word holds of each place with the value that the words have there
value_so : (P : ℕ → ℕ → Type 0) (word : ℕ × ℕ) (words : List (ℕ × ℕ)) (i : ℕ) (b : Bool) → eqb word.0 i ≡ b → P word.0 word.1 → P i (value_in words i) → P i (cond b word.1 (value_in words i))
value_so P word words i true q a rest = subst (λ (k : ℕ). P k word.1) (eqb-true word.0 i q) a
value_so P word words i false q a rest = rest

values_behind : (P : ℕ → ℕ → Type 0) (word : ℕ × ℕ) (words : List (ℕ × ℕ)) (places : List ℕ) → P word.0 word.1 → AllByRecursion (λ i. P i (value_in words i)) places → AllByRecursion (λ i. P i (value_in (word ∷ words) i)) places
values_behind P word words [] a rest = tt
values_behind P word words (i ∷ places) a rest = (value_so P word words i (eqb word.0 i) refl a rest.0, values_behind P word words places a rest.1)

value_first : (P : ℕ → ℕ → Type 0) (word : ℕ × ℕ) (words : List (ℕ × ℕ)) (b : Bool) → eqb word.0 word.0 ≡ b → P word.0 word.1 → P word.0 (cond b word.1 (value_in words word.0))
value_first P word words true q a = a
value_first P word words false q a = absurd (both_ways (eqb word.0 word.0) q (eq-eqb word.0 word.0 refl))

pub values_so : (P : ℕ → ℕ → Type 0) (words : List (ℕ × ℕ)) → Each P words → AllByRecursion (λ i. P i (value_in words i)) (places_listed words)
values_so P [] a = tt
values_so P (word ∷ words) a = (value_first P word words (eqb word.0 word.0) refl a.0, values_behind P word words (places_listed words) a.0 (values_so P words a.1))

same_pairs : (P Q : ℕ → ℕ → Type 0) (words others : List (ℕ × ℕ)) → ((i v w : ℕ) → P i v → Q i w → v ≡ w) → Each P words → Each Q others → places_listed words ≡ places_listed others → words ≡ others
same_pairs P Q [] [] agree a b e = refl
same_pairs P Q [] (other ∷ others) agree a b e = absurd (cc)
same_pairs P Q (word ∷ words) [] agree a b e = absurd (cc)
same_pairs P Q (word ∷ words) (other ∷ others) agree a b e =
    let place : word.0 ≡ other.0 = cc in
    let places : places_listed words ≡ places_listed others = cc in
    let value : word.1 ≡ other.1 = agree other.0 word.1 other.1 (subst (λ (i : ℕ). P i word.1) place a.0) b.0 in
    let rest = same_pairs P Q words others agree a.1 b.1 places in
    let first : word ≡ other = λ i. (place i, value i) in
    cc

-- words that must be fetched, of which each has the value that the others' has at its place, are the others
pub same_words : (P Q : ℕ → ℕ → Type 0) (words others : List (ℕ × ℕ)) (facts : StreamFacts) → ((i v w : ℕ) → P i v → Q i w → v ≡ w) → Each P words → Each Q others
    → places_listed words ≡ fetched_places words facts → places_listed others ≡ fetched_places others facts → words ≡ others
unfolding fetched_places
same_words P Q words others facts agree a b there also =
    let m = value_in words in
    let n = value_in others in
    let P' : ℕ → Type 0 = λ i. P i (m i) in
    let Q' : ℕ → Type 0 = λ i. Q i (n i) in
    let places = same_places P' Q' m n facts (λ i x y. agree i (m i) (n i) x y) (subst (AllByRecursion P') there (values_so P words a)) (subst (AllByRecursion Q') also (values_so Q others b)) in
    same_pairs P Q words others agree a b (there ∙ places ∙ sym also)
