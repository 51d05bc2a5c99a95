-- Where steps that conflict keep their order, the newest steps can be taken off one after the other.
use Rattle.std.proofs.Common.{◌≡◌, ◌≢◌, ℕ, ◌+◌, ◌<◌, ◌≤◌, ◌↔◌, ◌⊎◌, inl, inr, ⊎_elim, eqb, Bool, true, false, ◌&&◌, cond, Option, Some, None, List, [], ◌∷◌, length, refl, sym, ap, subst, ◌∙◌, arith}
use Rattle.std.proofs.lemmas.Bool.{eqb-true, eqb-false, eq-eqb, ne_eqb, cases_lt, both_ways}
use Rattle.gpu_journal.specs.declared.event.Event.{Event}
use Rattle.race_laws.specs.Touches.{conflict, steps_in, AreApart}
use Rattle.race_laws.specs.Alike.{steps_by, step_at, steps_before, ConflictsAlike}
use Rattle.race_laws.proofs.Shuffles.{Words, Steps, of, newer, without, FreeOf, Same, TakesOff, of_without, same_rest, Among, among_first, among_later, apart_by}

-- the same of the steps of two lists
abbrev pub Alike : Steps → Steps → Type 0
Alike xs ys = (s t i j : ℕ) (words others : Words) → s ≢ t → step_at xs s i ≡ Some words → step_at xs t j ≡ Some others → conflict words others ≡ true → (j < steps_before xs s i t) ↔ (j < steps_before ys s i t)

-- ---- one step more

by_own : (x : ℕ × Words) (xs : Steps) (s : ℕ) → x.0 ≡ s → steps_by (x ∷ xs) s ≡ steps_by xs s + 1
by_own x xs s is = ap (λ (b : Bool). cond b (steps_by xs s + 1) (steps_by xs s)) (eq-eqb x.0 s is)

by_other : (x : ℕ × Words) (xs : Steps) (s : ℕ) → x.0 ≢ s → steps_by (x ∷ xs) s ≡ steps_by xs s
by_other x xs s apart = ap (λ (b : Bool). cond b (steps_by xs s + 1) (steps_by xs s)) (ne_eqb x.0 s apart)

-- the head is step i of stream s, or it is not
abbrev Here : ℕ × Words → Steps → ℕ → ℕ → Type 0
Here x xs s i = (x.0 ≡ s) × (steps_by xs s ≡ i)

test_here : (x : ℕ × Words) (xs : Steps) (s i : ℕ) → Here x xs s i → (eqb x.0 s && eqb (steps_by xs s) i) ≡ true
test_here x xs s i is = λ k. eq-eqb x.0 s is.0 k && eq-eqb (steps_by xs s) i is.1 k

test_not : (x : ℕ × Words) (xs : Steps) (s i : ℕ) → (Here x xs s i → ⊥) → (eqb x.0 s && eqb (steps_by xs s) i) ≡ false
test_not x xs s i off = by (eqb x.0 s) refl (eqb (steps_by xs s) i) refl
  where
    by : (b : Bool) → eqb x.0 s ≡ b → (c : Bool) → eqb (steps_by xs s) i ≡ c → (b && c) ≡ false
    by true m true n = absurd (off (eqb-true x.0 s m, eqb-true (steps_by xs s) i n))
    by true m false n = refl
    by false m c n = refl

-- which of the two
is_here : (x : ℕ × Words) (xs : Steps) (s i : ℕ) → Here x xs s i ⊎ (Here x xs s i → ⊥)
is_here x xs s i = by (eqb x.0 s) refl (eqb (steps_by xs s) i) refl
  where
    by : (b : Bool) → eqb x.0 s ≡ b → (c : Bool) → eqb (steps_by xs s) i ≡ c → Here x xs s i ⊎ (Here x xs s i → ⊥)
    by true m true n = inl (eqb-true x.0 s m, eqb-true (steps_by xs s) i n)
    by true m false n = inr (λ h. eqb-false (steps_by xs s) i n h.1)
    by false m c n = inr (λ h. eqb-false x.0 s m h.0)

at_here : (x : ℕ × Words) (xs : Steps) (s i : ℕ) → Here x xs s i → step_at (x ∷ xs) s i ≡ Some x.1
at_here x xs s i is = ap (λ (b : Bool). cond b (Some x.1) (step_at xs s i)) (test_here x xs s i is)

at_behind : (x : ℕ × Words) (xs : Steps) (s i : ℕ) → (Here x xs s i → ⊥) → step_at (x ∷ xs) s i ≡ step_at xs s i
at_behind x xs s i off = ap (λ (b : Bool). cond b (Some x.1) (step_at xs s i)) (test_not x xs s i off)

before_here : (x : ℕ × Words) (xs : Steps) (s i t : ℕ) → Here x xs s i → steps_before (x ∷ xs) s i t ≡ steps_by xs t
before_here x xs s i t is = ap (λ (b : Bool). cond b (steps_by xs t) (steps_before xs s i t)) (test_here x xs s i is)

before_behind : (x : ℕ × Words) (xs : Steps) (s i t : ℕ) → (Here x xs s i → ⊥) → steps_before (x ∷ xs) s i t ≡ steps_before xs s i t
before_behind x xs s i t off = ap (λ (b : Bool). cond b (steps_by xs t) (steps_before xs s i t)) (test_not x xs s i off)

-- ---- counts

by_more : (x : ℕ × Words) (xs : Steps) (s : ℕ) → steps_by xs s ≤ steps_by (x ∷ xs) s
by_more x xs s = by (eqb x.0 s)
  where
    by : (b : Bool) → steps_by xs s ≤ cond b (steps_by xs s + 1) (steps_by xs s)
    by true = omega arith
    by false = omega arith

-- a step that is there has a number below the count
at_below : (xs : Steps) (s i : ℕ) (words : Words) → step_at xs s i ≡ Some words → i < steps_by xs s
at_below [] s i words is = absurd (cc)
at_below (x ∷ xs) s i words is = by (λ q. at_below xs s i words q) (is_here x xs s i)
  where
    by : (step_at xs s i ≡ Some words → i < steps_by xs s) → Here x xs s i ⊎ (Here x xs s i → ⊥) → i < steps_by (x ∷ xs) s
    by rest (inl h) = let own = by_own x xs s h.0 in let same = h.1 in omega (arith, own, same)
    by rest (inr off) = let less = rest (sym (at_behind x xs s i off) ∙ is) in let more = by_more x xs s in omega (arith, less, more)

-- no more stand before a step than there are
before_most : (xs : Steps) (s i t : ℕ) → steps_before xs s i t ≤ steps_by xs t
before_most [] s i t = omega arith
before_most (x ∷ xs) s i t = by (before_most xs s i t) (is_here x xs s i)
  where
    by : steps_before xs s i t ≤ steps_by xs t → Here x xs s i ⊎ (Here x xs s i → ⊥) → steps_before (x ∷ xs) s i t ≤ steps_by (x ∷ xs) t
    by rest (inl h) = let e = before_here x xs s i t h in let more = by_more x xs t in omega (arith, e, more)
    by rest (inr off) = let e = before_behind x xs s i t off in let more = by_more x xs t in omega (arith, e, more, rest)

-- the count is the length of what is of the stream
by_length : (xs : Steps) (s : ℕ) → steps_by xs s ≡ length (of s xs)
by_length [] s = refl
by_length (x ∷ xs) s = by (eqb x.0 s) (by_length xs s)
  where
    by : (b : Bool) → steps_by xs s ≡ length (of s xs) → cond b (steps_by xs s + 1) (steps_by xs s) ≡ length (cond b (x.1 ∷ of s xs) (of s xs))
    by true rest = omega (arith, rest)
    by false rest = rest

by_same : (xs ys : Steps) (s : ℕ) → of s xs ≡ of s ys → steps_by xs s ≡ steps_by ys s
by_same xs ys s same = by_length xs s ∙ ap length same ∙ sym (by_length ys s)

-- and the step of a number is told by what is of the stream
abbrev told : List Words → ℕ → Option Words
told [] i = None
told (w ∷ ws) i = cond (eqb (length ws) i) (Some w) (told ws i)

at_told : (xs : Steps) (s i : ℕ) → step_at xs s i ≡ told (of s xs) i
at_told [] s i = refl
at_told (x ∷ xs) s i = by (eqb x.0 s) (at_told xs s i)
  where
    by : (b : Bool) → step_at xs s i ≡ told (of s xs) i → cond (b && eqb (steps_by xs s) i) (Some x.1) (step_at xs s i) ≡ told (cond b (x.1 ∷ of s xs) (of s xs)) i
    by true rest = λ k. cond (eqb (by_length xs s k) i) (Some x.1) (rest k)
    by false rest = rest

at_same : (xs ys : Steps) (s i : ℕ) → of s xs ≡ of s ys → step_at xs s i ≡ step_at ys s i
at_same xs ys s i same = at_told xs s i ∙ ap (λ ws. told ws i) same ∙ sym (at_told ys s i)

-- a step that is there is there behind one more step
at_later : (x : ℕ × Words) (xs : Steps) (s i : ℕ) (words : Words) → step_at xs s i ≡ Some words → step_at (x ∷ xs) s i ≡ Some words
at_later x xs s i words is = at_behind x xs s i (λ h. let less = at_below xs s i words is in let same = h.1 in absurd (omega (arith, less, same))) ∙ is

-- a step that is there is among those of its stream
at_among : (xs : Steps) (s i : ℕ) (words : Words) → step_at xs s i ≡ Some words → Among words (of s xs)
at_among [] s i words is = absurd (cc)
at_among (x ∷ xs) s i words is = by (λ q. at_among xs s i words q) (is_here x xs s i)
  where
    by : (step_at xs s i ≡ Some words → Among words (of s xs)) → Here x xs s i ⊎ (Here x xs s i → ⊥) → Among words (of s (x ∷ xs))
    by rest (inl h) =
        let both : Some x.1 ≡ Some words = sym (at_here x xs s i h) ∙ is in
        let same : x.1 ≡ words = cc in
        subst (λ (w : Words). Among w (of s (x ∷ xs))) same (subst (λ (t : ℕ). Among x.1 (of t (x ∷ xs))) h.0 (among_first x xs))
    by rest (inr off) = among_later words s x xs (rest (sym (at_behind x xs s i off) ∙ is))

-- where no steps of different streams conflict, conflicts stand alike in every other history
pub apart_alike : (h g : List Event) → AreApart h → ConflictsAlike h g
apart_alike h g apart = λ s t i j words others other here there conflicts.
    absurd (both_ways (conflict words others) (apart_by (steps_in h) apart s t words others other (at_among (steps_in h) s i words here) (at_among (steps_in h) t j others there)) conflicts)

-- ---- no newer step conflicts with the newest of a stream

newer_free : (words : Words) (s n : ℕ) (ys : Steps) → steps_by ys s ≡ n + 1 → ((t j : ℕ) (others : Words) → s ≢ t → step_at ys t j ≡ Some others → conflict words others ≡ true → j < steps_before ys s n t) → FreeOf words (newer s ys)
newer_free words s n [] count all = tt
newer_free words s n (y ∷ ys) count all = by (λ c a. newer_free words s n ys c a) (eqb y.0 s) refl
  where
    by : (steps_by ys s ≡ n + 1 → ((t j : ℕ) (others : Words) → s ≢ t → step_at ys t j ≡ Some others → conflict words others ≡ true → j < steps_before ys s n t) → FreeOf words (newer s ys))
        → (b : Bool) → eqb y.0 s ≡ b → FreeOf words (cond b [] (y ∷ newer s ys))
    by rest true q = tt
    by rest false q =
        let apart = eqb-false y.0 s q in
        let behind : (t : ℕ) → steps_before (y ∷ ys) s n t ≡ steps_before ys s n t = λ t. before_behind y ys s n t (λ h. apart h.0) in
        let here : conflict words y.1 ≡ true → ⊥ = λ c.
        let less = all y.0 (steps_by ys y.0) y.1 (λ e. apart (sym e)) (at_here y ys y.0 (steps_by ys y.0) (refl, refl)) c in
        let same = behind y.0 in
        let most = before_most ys s n y.0 in
        omega (arith, less, same, most) in
        (off (conflict words y.1) here, rest (sym (by_other y ys s apart) ∙ count) (λ t j others other there c. subst (λ m. j < m) (behind t) (all t j others other (at_later y ys t j others there) c)))
      where
        off : (b : Bool) → (b ≡ true → ⊥) → b ≡ false
        off true f = absurd (f refl)
        off false f = refl

-- ---- without the newest step of a stream the others keep their order

by_without : (s t : ℕ) (ys : Steps) → s ≢ t → steps_by (without s ys) t ≡ steps_by ys t
by_without s t ys apart = by_same (without s ys) ys t (of_without s t ys apart)

by_without_own : (s n : ℕ) (ys : Steps) → steps_by ys s ≡ n + 1 → steps_by (without s ys) s ≡ n
by_without_own s n [] count = absurd (omega (arith, count))
by_without_own s n (y ∷ ys) count = by (λ c. by_without_own s n ys c) (eqb y.0 s) refl
  where
    by : (steps_by ys s ≡ n + 1 → steps_by (without s ys) s ≡ n) → (b : Bool) → eqb y.0 s ≡ b → steps_by (cond b ys (y ∷ without s ys)) s ≡ n
    by rest true q = let own = by_own y ys s (eqb-true y.0 s q) in omega (arith, own, count)
    by rest false q = let apart = eqb-false y.0 s q in by_other y (without s ys) s apart ∙ rest (sym (by_other y ys s apart) ∙ count)

-- of the steps that are left, as many stand before each
kept_order : (s n : ℕ) (ys : Steps) → steps_by ys s ≡ n + 1 → (u i t j : ℕ) → u ≢ t → i < steps_by (without s ys) u → j < steps_by (without s ys) t → (j < steps_before ys u i t) ↔ (j < steps_before (without s ys) u i t)
kept_order s n [] count u i t j other inside there = absurd (omega (arith, count))
kept_order s n (y ∷ ys) count u i t j other inside there = by (λ c a b. kept_order s n ys c u i t j other a b) (eqb y.0 s) refl inside there
  where
    by_equal : (zs : Steps) → steps_before (y ∷ ys) u i t ≡ steps_before zs u i t → (j < steps_before (y ∷ ys) u i t) ↔ (j < steps_before zs u i t)
    by_equal zs e = (λ less. omega (arith, less, e), λ less. omega (arith, less, e))

    -- the newest step of the stream is the head
    own : y.0 ≡ s → i < steps_by ys u → (j < steps_before (y ∷ ys) u i t) ↔ (j < steps_before ys u i t)
    own is inside = by_equal ys (before_behind y ys u i t (λ h. let same = h.1 in absurd (omega (arith, inside, same))))

    -- the head is step i of stream u, which is another stream
    head : y.0 ≢ s → Here y ys u i → j < steps_by (y ∷ without s ys) t → (j < steps_before (y ∷ ys) u i t) ↔ (j < steps_before (y ∷ without s ys) u i t)
    head apart h there =
        let u_other : s ≢ u = λ e. apart (h.0 ∙ sym e) in
        let left : steps_before (y ∷ ys) u i t ≡ steps_by ys t = before_here y ys u i t h in
        let right : steps_before (y ∷ without s ys) u i t ≡ steps_by (without s ys) t = before_here y (without s ys) u i t (h.0, by_without s u ys u_other ∙ h.1) in
        let inside : steps_by (y ∷ without s ys) t ≡ steps_by (without s ys) t = by_other y (without s ys) t (λ e. other (sym h.0 ∙ e)) in
        at (cases t) left right inside
      where
        cases : (t : ℕ) → (s ≡ t) ⊎ (s ≡ t → ⊥)
        cases t = test (eqb s t) refl
          where
            test : (b : Bool) → eqb s t ≡ b → (s ≡ t) ⊎ (s ≡ t → ⊥)
            test true q = inl (eqb-true s t q)
            test false q = inr (eqb-false s t q)

        at : (s ≡ t) ⊎ (s ≡ t → ⊥) → steps_before (y ∷ ys) u i t ≡ steps_by ys t → steps_before (y ∷ without s ys) u i t ≡ steps_by (without s ys) t → steps_by (y ∷ without s ys) t ≡ steps_by (without s ys) t
            → (j < steps_before (y ∷ ys) u i t) ↔ (j < steps_before (y ∷ without s ys) u i t)
        at (inl same) left right inside =
            let behind : steps_by ys s ≡ n + 1 = sym (by_other y ys s apart) ∙ count in
            let less : steps_by (without s ys) t ≡ n = ap (steps_by (without s ys)) (sym same) ∙ by_without_own s n ys behind in
            let all : steps_by ys t ≡ n + 1 = ap (steps_by ys) (sym same) ∙ behind in
            (λ q. omega (arith, right, inside, there), λ q. omega (arith, left, less, all, inside, there))
        at (inr off) left right inside = let same = by_without s t ys off in by_equal (y ∷ without s ys) (left ∙ sym same ∙ sym right)

    -- it is not
    tail : y.0 ≢ s → (Here y ys u i → ⊥) → (Here y (without s ys) u i → ⊥) → ((j < steps_before ys u i t) ↔ (j < steps_before (without s ys) u i t)) → (j < steps_before (y ∷ ys) u i t) ↔ (j < steps_before (y ∷ without s ys) u i t)
    tail apart off none rest =
        let left = before_behind y ys u i t off in
        let right = before_behind y (without s ys) u i t none in
        (λ q. subst (λ m. j < m) (sym right) (rest.0 (subst (λ m. j < m) left q)), λ q. subst (λ m. j < m) (sym left) (rest.1 (subst (λ m. j < m) right q)))

    by : (steps_by ys s ≡ n + 1 → i < steps_by (without s ys) u → j < steps_by (without s ys) t → (j < steps_before ys u i t) ↔ (j < steps_before (without s ys) u i t))
        → (b : Bool) → eqb y.0 s ≡ b → i < steps_by (cond b ys (y ∷ without s ys)) u → j < steps_by (cond b ys (y ∷ without s ys)) t → (j < steps_before (y ∷ ys) u i t) ↔ (j < steps_before (cond b ys (y ∷ without s ys)) u i t)
    by rest true q inside there = own (eqb-true y.0 s q) inside
    by rest false q inside there = at (is_here y ys u i)
      where
        apart : y.0 ≢ s
        apart = eqb-false y.0 s q

        behind : steps_by ys s ≡ n + 1
        behind = sym (by_other y ys s apart) ∙ count

        -- counts of the stream of the head are the same without the step
        same_head : steps_by (without s ys) y.0 ≡ steps_by ys y.0
        same_head = by_without s y.0 ys (λ e. apart (sym e))

        at : Here y ys u i ⊎ (Here y ys u i → ⊥) → (j < steps_before (y ∷ ys) u i t) ↔ (j < steps_before (y ∷ without s ys) u i t)
        at (inl h) = head apart h there
        at (inr off) =
            let none : Here y (without s ys) u i → ⊥ = λ h. off (h.0, ap (steps_by ys) (sym h.0) ∙ sym same_head ∙ ap (steps_by (without s ys)) h.0 ∙ h.1) in
            let within : i < steps_by (without s ys) u = below u i inside none in
            tail apart off none (past (below_or t j there) within)
          where
            -- a number below the count that is not the head's is below the count behind it
            below_or : (t j : ℕ) → j < steps_by (y ∷ without s ys) t → (j < steps_by (without s ys) t) ⊎ ((y.0 ≡ t) × (j ≡ steps_by (without s ys) t))
            below_or t j less = split (eqb y.0 t) refl
              where
                split : (c : Bool) → eqb y.0 t ≡ c → (j < steps_by (without s ys) t) ⊎ ((y.0 ≡ t) × (j ≡ steps_by (without s ys) t))
                split true m =
                    let own_count = by_own y (without s ys) t (eqb-true y.0 t m) in
                    ⊎_elim inl (λ more. inr (eqb-true y.0 t m, omega (arith, own_count, less, more))) (cases_lt j (steps_by (without s ys) t))
                split false m = let other_count = by_other y (without s ys) t (eqb-false y.0 t m) in inl (omega (arith, other_count, less))

            below : (t j : ℕ) → j < steps_by (y ∷ without s ys) t → (Here y (without s ys) t j → ⊥) → j < steps_by (without s ys) t
            below t j less none = ⊎_elim (λ q. q) (λ head. absurd (none (head.0, sym head.1))) (below_or t j less)

            past : (j < steps_by (without s ys) t) ⊎ ((y.0 ≡ t) × (j ≡ steps_by (without s ys) t)) → i < steps_by (without s ys) u → (j < steps_before ys u i t) ↔ (j < steps_before (without s ys) u i t)
            past (inl less) within = rest behind within less
            past (inr head) within =
                let same : steps_by (without s ys) t ≡ steps_by ys t = ap (steps_by (without s ys)) (sym head.0) ∙ same_head ∙ ap (steps_by ys) head.0 in
                let is = head.1 in
                let most = before_most ys u i t in
                let least = before_most (without s ys) u i t in
                (λ q. absurd (omega (arith, q, same, is, most)), λ q. absurd (omega (arith, q, is, least)))

pub alike_takes : TakesOff Alike
alike_takes = record { free = free; rest = rest }
  where
    count_of : (x : ℕ × Words) (xs ys : Steps) → Same (x ∷ xs) ys → steps_by ys x.0 ≡ steps_by xs x.0 + 1
    count_of x xs ys same = sym (by_same (x ∷ xs) ys x.0 (same x.0)) ∙ by_own x xs x.0 refl

    free : (x : ℕ × Words) (xs ys : Steps) → Alike (x ∷ xs) ys → Same (x ∷ xs) ys → FreeOf x.1 (newer x.0 ys)
    free x xs ys alike same =
        newer_free x.1 x.0 (steps_by xs x.0) ys (count_of x xs ys same) (λ t j others apart there c.
        let there_too : step_at (x ∷ xs) t j ≡ Some others = at_same (x ∷ xs) ys t j (same t) ∙ there in
        let less = at_below (x ∷ xs) t j others there_too in
        let count : steps_by (x ∷ xs) t ≡ steps_by xs t = by_other x xs t apart in
        let before : steps_before (x ∷ xs) x.0 (steps_by xs x.0) t ≡ steps_by xs t = before_here x xs x.0 (steps_by xs x.0) t (refl, refl) in
        (alike x.0 t (steps_by xs x.0) j x.1 others apart (at_here x xs x.0 (steps_by xs x.0) (refl, refl)) there_too c).0 (omega (arith, less, count, before)))

    rest : (x : ℕ × Words) (xs ys : Steps) → Alike (x ∷ xs) ys → Same (x ∷ xs) ys → Alike xs (without x.0 ys)
    rest x xs ys alike same s t i j words others apart here there c =
        let left : Same xs (without x.0 ys) = same_rest x xs ys same in
        let inside = at_below xs s i words here in
        let within = at_below xs t j others there in
        let count_s = by_same xs (without x.0 ys) s (left s) in
        let count_t = by_same xs (without x.0 ys) t (left t) in
        let kept = kept_order x.0 (steps_by xs x.0) ys (count_of x xs ys same) s i t j apart (omega (arith, inside, count_s)) (omega (arith, within, count_t)) in
        let both = alike s t i j words others apart (at_later x xs s i words here) (at_later x xs t j others there) c in
        let behind : steps_before (x ∷ xs) s i t ≡ steps_before xs s i t = before_behind x xs s i t (λ h. let e = h.1 in absurd (omega (arith, inside, e))) in
        (λ less. kept.0 (both.0 (subst (λ m. j < m) (sym behind) less)), λ less. subst (λ m. j < m) behind (both.1 (kept.1 less)))
