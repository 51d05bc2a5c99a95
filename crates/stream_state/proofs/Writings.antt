-- What writes in order leave among the values of the result places, and where a further write stands among them.
use Rattle.std.proofs.Common.{◌≡◌, ℕ, zero, suc, ◌+◌, ◌-◌, ◌<◌, ◌≤◌, max, ◌≢◌, Bool, true, false, Option, Some, None, List, [], ◌∷◌, ◌++◌, length, map, take, drop, get_or, set, replicate, refl, sym, ap, ◌∙◌, arith, length-append}
use Rattle.std.specs.Prelude.{◌==◌, nat_lt, slice_get, if◌then◌else◌}
use Rattle.std.specs.List.{range_with_len}
use Rattle.std.specs.Option.{option_map_or}
use Rattle.std.proofs.lemmas.Bool.Decides.{nat_tests}
use Rattle.std.proofs.lemmas.Grind.{common_steps}
use Rattle.std.proofs.lemmas.List.{length-replicate}
use Rattle.std.proofs.lemmas.List.FromFn.{fill_by_all}
use Rattle.stream_state.specs.Writes.{Writes, with_write, left_by_writes, end_of_writes, after_writes}

-- ---- values after writes

-- a place after all that is written keeps its value
pub last_past : (writes : Writes) (place before : ℕ) → end_of_writes writes ≤ place → left_by_writes writes place before ≡ before
last_past [] place before h = refl
last_past (write ∷ writes) place before h =
    let other : (write.0 == place) ≡ false = grind (arith, nat_tests) in
    rw other (last_past writes place before (omega arith))

-- values that are right at each place are those after the writes
pub values_after : (writes : Writes) (old new : List ℕ) → length new ≡ length old → end_of_writes writes ≤ length old → ((k : ℕ) → get_or new k 0 ≡ left_by_writes writes k (get_or old k 0)) → new ≡ after_writes writes old
unfolding after_writes
values_after writes old new sized room shown =
    fill_by_all (λ place. left_by_writes writes place (get_or old place 0)) new (max (length old) (end_of_writes writes)) 0 (omega arith) (λ k lt. shown k)

map_agrees : (f g : ℕ → ℕ) (from count : ℕ) → ((k : ℕ) → f k ≡ g k) → map f (range_with_len from count) ≡ map g (range_with_len from count)
map_agrees f g from zero same = refl
map_agrees f g from (suc count) same = let first = same from in let rest = map_agrees f g (from + 1) count same in cc

-- zeros after the values are not seen
zeros_behind : (values : List ℕ) (count k : ℕ) → get_or (values ++ replicate count 0) k 0 ≡ get_or values k 0
zeros_behind [] zero k = refl
zeros_behind [] (suc count) zero = refl
zeros_behind [] (suc count) (suc k) = zeros_behind [] count k
zeros_behind (value ∷ values) count zero = refl
zeros_behind (value ∷ values) count (suc k) = zeros_behind values count k

-- so the writes leave the same where the values were first made as many as they need
pub after_growth : (writes : Writes) (values : List ℕ) → after_writes writes (values ++ replicate (end_of_writes writes - length values) 0) ≡ after_writes writes values
unfolding after_writes
after_growth writes values =
    let grown : List ℕ = values ++ replicate (end_of_writes writes - length values) 0 in
    let counted : max (length grown) (end_of_writes writes) ≡ max (length values) (end_of_writes writes) = omega (arith, length-append values (replicate (end_of_writes writes - length values) 0), length-replicate {A = ℕ} (end_of_writes writes - length values) 0) in
    ap (λ n. map (λ place. left_by_writes writes place (get_or grown place 0)) (range_with_len 0 n)) counted
    ∙ map_agrees (λ place. left_by_writes writes place (get_or grown place 0)) (λ place. left_by_writes writes place (get_or values place 0)) 0 (max (length values) (end_of_writes writes))
    (λ k. ap (left_by_writes writes k) (zeros_behind values (end_of_writes writes - length values) k))

-- the length after growth
pub grown_enough : (end : ℕ) (values : List ℕ) → end ≤ length (values ++ replicate (end - length values) 0)
grown_enough end values = omega (arith, length-append values (replicate (end - length values) 0), length-replicate {A = ℕ} (end - length values) 0)

-- one write of those that are left is done
pub one_done : (writes : Writes) (values : List ℕ) (i k : ℕ) (place value : ℕ) → i < length writes → get_or writes i (place, value) ≡ (place, value) → place < length values
    → left_by_writes (drop (suc i) writes) k (get_or (set values place value) k 0) ≡ left_by_writes (drop i writes) k (get_or values k 0)
one_done [] values i k place value h e p = absurd (omega arith)
one_done (write ∷ writes) values zero k place value h e p =
    let same : write ≡ (place, value) = e in
    let first : write.0 ≡ place = ap (λ w. w.0) same in
    let second : write.1 ≡ value = ap (λ w. w.1) same in
    ap (left_by_writes writes k) (rw first (rw second (at_place (place == k) refl)))
  where
    at_place : (b : Bool) → (place == k) ≡ b → get_or (set values place value) k 0 ≡ (if b then value else get_or values k 0)
    at_place true here = let same : k ≡ place = grind (arith, nat_tests) in grind (arith, common_steps)
    at_place false here = let other : k ≢ place = grind (arith, nat_tests) in grind (arith, common_steps)
one_done (write ∷ writes) values (suc i) k place value h e p = one_done writes values i k place value (omega arith) e p

-- the rest of the writes ends no later
pub left_ends : (writes : Writes) (i : ℕ) → end_of_writes (drop (suc i) writes) ≤ end_of_writes (drop i writes)
left_ends [] zero = omega arith
left_ends [] (suc i) = omega arith
left_ends (write ∷ writes) zero = omega arith
left_ends (write ∷ writes) (suc i) = left_ends writes i

-- the first of those that are left lies below their end
pub next_ends : (writes : Writes) (i place value : ℕ) → i < length writes → get_or writes i (place, value) ≡ (place, value) → place < end_of_writes (drop i writes)
next_ends [] i place value h e = absurd (omega arith)
next_ends (write ∷ writes) zero place value h e = let first : write.0 ≡ place = ap (λ w. w.0) e in omega arith
next_ends (write ∷ writes) (suc i) place value h e = next_ends writes i place value (omega arith) e

-- ---- one more write in its order

-- it goes after a write at a lower place
pub goes_on : (write : ℕ × ℕ) (writes : Writes) (i : ℕ) (here : ℕ × ℕ) → i < length writes → get_or writes i here ≡ here → here.0 < write.0
    → take i writes ++ with_write write (drop i writes) ≡ take (suc i) writes ++ with_write write (drop (suc i) writes)
goes_on write [] i here h e l = absurd (omega arith)
goes_on write (first ∷ writes) zero here h e l =
    let at : first.0 ≡ here.0 = ap (λ w. w.0) e in
    let below : nat_lt write.0 first.0 ≡ false = grind (arith, nat_tests) in
    let other : (write.0 == first.0) ≡ false = grind (arith, nat_tests) in
    rw below (rw other refl)
goes_on write (first ∷ writes) (suc i) here h e l = ap (λ rest. first ∷ rest) (goes_on write writes i here (omega arith) e l)

-- it goes before one at a higher place, and to the end where there is none
pub goes_here : (write : ℕ × ℕ) (writes : Writes) (i : ℕ) → ((here : ℕ × ℕ) → slice_get writes i ≡ Some here → write.0 < here.0)
    → with_write write (drop i writes) ≡ write ∷ drop i writes
goes_here write [] zero h = refl
goes_here write [] (suc i) h = refl
goes_here write (first ∷ writes) zero h =
    let higher : write.0 < first.0 = h first refl in
    let below : nat_lt write.0 first.0 ≡ true = grind (arith, nat_tests) in
    rw below refl
goes_here write (first ∷ writes) (suc i) h = goes_here write writes i h

-- one at its own place stays
pub stays_here : (write : ℕ × ℕ) (writes : Writes) (i : ℕ) (here : ℕ × ℕ) → slice_get writes i ≡ Some here → write.0 ≡ here.0
    → take i writes ++ with_write write (drop i writes) ≡ writes
stays_here write [] zero here h e = cc
stays_here write [] (suc i) here h e = cc
stays_here write (first ∷ writes) zero here h e =
    let at : first ≡ here = cc in
    let place : first.0 ≡ here.0 = ap (λ w. w.0) at in
    let below : nat_lt write.0 first.0 ≡ false = grind (arith, nat_tests) in
    let same : (write.0 == first.0) ≡ true = grind (arith, nat_tests) in
    rw below (rw same refl)
stays_here write (first ∷ writes) (suc i) here h e = ap (λ rest. first ∷ rest) (stays_here write writes i here h e)

-- what is written at an index is tested there
pub added_same : (place value : ℕ) (writes : Writes) (i : ℕ) → with_write (place, value) writes ≡ take i writes ++ with_write (place, value) (drop i writes)
    → option_map_or (λ (write : ℕ × ℕ). write.0 == place) (slice_get writes i) false ≡ true → writes ≡ with_write (place, value) writes
added_same place value writes i behind found = by_found (slice_get writes i) refl found
  where
    by_found : (here : Option (ℕ × ℕ)) → slice_get writes i ≡ here → option_map_or (λ (write : ℕ × ℕ). write.0 == place) here false ≡ true → writes ≡ with_write (place, value) writes
    by_found None at f = cc
    by_found (Some here) at f =
        let same : place ≡ here.0 = grind (arith, nat_tests) in
        sym (stays_here (place, value) writes i here at same) ∙ sym behind

pub added_new : (place value : ℕ) (writes : Writes) (i : ℕ) → with_write (place, value) writes ≡ take i writes ++ with_write (place, value) (drop i writes)
    → ((write : ℕ × ℕ) → slice_get writes i ≡ Some write → place ≤ write.0)
    → option_map_or (λ (write : ℕ × ℕ). write.0 == place) (slice_get writes i) false ≡ false → take i writes ++ (place, value) ∷ drop i writes ≡ with_write (place, value) writes
added_new place value writes i behind first missed = ap (λ rest. take i writes ++ rest) (sym (goes_here (place, value) writes i higher)) ∙ sym behind
  where
    higher : (here : ℕ × ℕ) → slice_get writes i ≡ Some here → place < here.0
    higher here at =
        let least : place ≤ here.0 = first here at in
        let other : (here.0 == place) ≡ false = rw at at missed in
        grind (arith, nat_tests)
