-- A value that was last in a first part of what was written was last after a first part of the history.
use Rattle.std.proofs.Common.{◌≡◌, ℕ, zero, suc, ◌+◌, ◌-◌, ◌<◌, ◌≤◌, ◌⊎◌, inl, inr, ⊎_elim, eqb, nat_le, Bool, true, false, cond, List, [], ◌∷◌, ◌++◌, length, map, take, get_or, refl, sym, ap, subst, ◌∙◌, arith}
use Rattle.std.specs.List.{AllPairs}
use Rattle.std.proofs.lemmas.Bool.{ne_eqb}
use Rattle.std.proofs.lemmas.Bool.Decides.{nat_tests}
use Rattle.std.proofs.lemmas.List.{length-map, take-append-le, take-map, take_all}
use Rattle.std.proofs.lemmas.List.Kept.{AllPairs-from_increasing}
use Rattle.std.proofs.Math.Seq.{take-append-add, take-nil}
use Rattle.gpu_word.specs.Results.{Written, Write, finishes_in, last_or, last_written, writes_listed, WasLast}
use Rattle.gpu_word.specs.Results.{Finish as finish}
use Rattle.gpu_word.proofs.Written.{last_of_both, finishes_of_both}
use Rattle.gpu_plan.specs.Plans.{PlansData, plan_of, RiseFrom}
use Rattle.gpu_plan.specs.Passes.{flushes}
use Rattle.stream_state.specs.Steps.{writes}
use Rattle.stream_state.proofs.Runs.{writes_rise}
use Rattle.gpu_journal.specs.declared.event.Event.{Event}
use Rattle.gpu_journal.specs.declared.event.Event.TheVariants.{Order, Step, Finish, Lost, Close}
use Rattle.gpu_journal.specs.World.{stream_in, state_of}
use Rattle.gpu_journal.specs.Written.{written, written_by}
use Rattle.gpu_journal.specs.Dumps.{MayDump}
use Rattle.gpu_journal.proofs.Folding.{written_then, written_none}
use Rattle.gpu_house.proofs.Counting.{no_finish, finishes_are}

-- ---- lists of writes and finishes

-- the value is the last of the whole list, which has enough finishes
record IsWhole (list : List Written) (place least value : ℕ) : Type 0 where
  pub enough : least ≤ finishes_in list
  pub last : last_written list place ≡ value

-- a first part of the list leaves at each place what was there, or what the whole leaves there
abbrev CutsCleanly : List Written → Type 0
CutsCleanly list = (j i v : ℕ) → (finishes_in (take j list) ≡ 0) × (last_or i v (take j list) ≡ v) ⊎ (finishes_in (take j list) ≤ finishes_in list) × (last_or i v (take j list) ≡ last_or i v list)

-- what was last in a first part of both was last in a first part of the first list, or is last in both
cut : (xs ys : List Written) (place least value : ℕ) → CutsCleanly ys → WasLast (xs ++ ys) place least value → WasLast xs place least value ⊎ IsWhole (xs ++ ys) place least value
cut xs ys place least value clean was = by (nat_le n (length xs)) refl
  where
    n : ℕ
    n = was.length

    behind : (j : ℕ) → take n (xs ++ ys) ≡ xs ++ take j ys → WasLast xs place least value ⊎ IsWhole (xs ++ ys) place least value
    behind j parts = ⊎_elim before after (clean j place (last_written xs place))
      where
        count : least ≤ finishes_in xs + finishes_in (take j ys)
        count = let many = was.enough in let e = ap finishes_in parts ∙ finishes_of_both xs (take j ys) in omega (arith, many, e)

        found : last_or place (last_written xs place) (take j ys) ≡ value
        found = sym (ap (λ (l : List Written). last_written l place) parts ∙ last_of_both place 0 xs (take j ys)) ∙ was.last

        before : (finishes_in (take j ys) ≡ 0) × (last_or place (last_written xs place) (take j ys) ≡ last_written xs place) → WasLast xs place least value ⊎ IsWhole (xs ++ ys) place least value
        before same =
            let all : take (length xs) xs ≡ xs = take_all (length xs) xs (omega arith) in
            inl record {
              length = length xs;
              enough = (let none = same.0 in let e = ap finishes_in all in omega (arith, count, none, e));
              last = ap (λ (l : List Written). last_written l place) all ∙ sym same.1 ∙ found;
            }

        after : (finishes_in (take j ys) ≤ finishes_in ys) × (last_or place (last_written xs place) (take j ys) ≡ last_or place (last_written xs place) ys) → WasLast xs place least value ⊎ IsWhole (xs ++ ys) place least value
        after more = inr record {
          enough = (let few = more.0 in let e = finishes_of_both xs ys in omega (arith, count, few, e));
          last = last_of_both place 0 xs ys ∙ sym more.1 ∙ found;
        }

    by : (b : Bool) → nat_le n (length xs) ≡ b → WasLast xs place least value ⊎ IsWhole (xs ++ ys) place least value
    by true q =
        let le : n ≤ length xs = grind (arith, nat_tests) in
        let same = take-append-le n xs ys le in
        inl record { length = n; enough = subst (λ (l : List Written). least ≤ finishes_in l) same was.enough; last = subst (λ (l : List Written). last_written l place ≡ value) same was.last }
    by false q =
        let gt : length xs ≤ n = grind (arith, nat_tests) in
        let sum : n ≡ length xs + (n - length xs) = omega arith in
        behind (n - length xs) (ap (λ (k : ℕ). take k (xs ++ ys)) sum ∙ take-append-add xs ys (n - length xs))

-- ---- the writes of a step rise in their places, so each place is written once

rising : (k : ℕ) (pairs : List (ℕ × ℕ)) → AllPairs (λ x y. x < y) (map (λ (pair : ℕ × ℕ). pair.0) pairs) → ((j d : ℕ) → j < length pairs → k ≤ get_or (map (λ (pair : ℕ × ℕ). pair.0) pairs) j d) → RiseFrom k pairs
rising k [] rise low = tt
rising k (pair ∷ pairs) rise low = (
  low 0 0 (omega arith),
  rising (pair.0 + 1) pairs (λ i j d lt few. rise (suc i) (suc j) d (omega (arith, lt)) (omega (arith, few))) (λ j d few. let less = rise 0 (suc j) d (omega arith) (omega (arith, few, length-map pairs (λ (pair : ℕ × ℕ). pair.0))) in omega (arith, less)),
)

absent : (i v k : ℕ) (pairs : List (ℕ × ℕ)) → RiseFrom k pairs → i < k → last_or i v (writes_listed pairs) ≡ v
absent i v k [] rise low = refl
absent i v k (pair ∷ pairs) rise low =
    let first = rise.0 in
    let off : eqb pair.0 i ≡ false = ne_eqb pair.0 i (λ same. absurd (omega (arith, first, low, same))) in
    ap (λ (b : Bool). last_or i (cond b pair.1 v) (writes_listed pairs)) off ∙ absent i v (pair.0 + 1) pairs rise.1 (omega (arith, first, low))

rise_take : (k j : ℕ) (pairs : List (ℕ × ℕ)) → RiseFrom k pairs → RiseFrom k (take j pairs)
rise_take k zero pairs rise = tt
rise_take k (suc j) [] rise = tt
rise_take k (suc j) (pair ∷ pairs) rise = (rise.0, rise_take (pair.0 + 1) j pairs rise.1)

-- the first writes leave at a place what was there, or what all of them leave there
once : (i v k j : ℕ) (pairs : List (ℕ × ℕ)) → RiseFrom k pairs → (last_or i v (writes_listed (take j pairs)) ≡ v) ⊎ (last_or i v (writes_listed (take j pairs)) ≡ last_or i v (writes_listed pairs))
once i v k zero pairs rise = inl refl
once i v k (suc j) [] rise = inl refl
once i v k (suc j) (pair ∷ pairs) rise = by (eqb pair.0 i) refl (once i v (pair.0 + 1) j pairs rise.1)
  where
    by : (b : Bool) → eqb pair.0 i ≡ b → (last_or i v (writes_listed (take j pairs)) ≡ v) ⊎ (last_or i v (writes_listed (take j pairs)) ≡ last_or i v (writes_listed pairs))
        → (last_or i (cond b pair.1 v) (writes_listed (take j pairs)) ≡ v) ⊎ (last_or i (cond b pair.1 v) (writes_listed (take j pairs)) ≡ last_or i (cond b pair.1 v) (writes_listed pairs))
    by true q rest =
        let here : pair.0 ≡ i = grind (arith, nat_tests) in
        let low : i < pair.0 + 1 = omega (arith, here) in
        inr (absent i pair.1 (pair.0 + 1) (take j pairs) (rise_take (pair.0 + 1) j pairs rise.1) low ∙ sym (absent i pair.1 (pair.0 + 1) pairs rise.1 low))
    by false q rest = rest

pairs_clean : (pairs : List (ℕ × ℕ)) → RiseFrom 0 pairs → CutsCleanly (writes_listed pairs)
pairs_clean pairs rise j i v =
    let part : take j (writes_listed pairs) ≡ writes_listed (take j pairs) = take-map (λ (pair : ℕ × ℕ). Write pair.0 pair.1) j pairs in
    let none : finishes_in (take j (writes_listed pairs)) ≡ 0 = ap finishes_in part ∙ no_finish (take j pairs) in
    let same = ap (λ (l : List Written). last_or i v l) part in
    ⊎_elim (λ was. inl (none, same ∙ was)) (λ new. inr (omega (arith, none), same ∙ new)) (once i v 0 j pairs rise)

none_clean : CutsCleanly []
none_clean j i v = let none = take-nil {A = Written} j in inl (ap finishes_in none, ap (λ (l : List Written). last_or i v l) none)

one_clean : (x : Written) → CutsCleanly (x ∷ [])
one_clean x zero i v = inl (refl, refl)
one_clean x (suc j) i v =
    let all : take (suc j) (x ∷ []) ≡ x ∷ [] = ap (λ (l : List Written). x ∷ l) (take-nil j) in
    let count = ap finishes_in all in
    inr (omega (arith, count), ap (λ (l : List Written). last_or i v l) all)

-- so each event cuts cleanly
event_clean : (p : PlansData) (h : List Event) (s : ℕ) (e : Event) → CutsCleanly (written_by p h s e)
event_clean p h s (Order t n c) = none_clean
event_clean p h s (Step t words) =
    let pairs = writes (plan_of p s).areas words (state_of p h s) in
    pairs_clean pairs (rising 0 pairs (AllPairs-from_increasing (map (λ (pair : ℕ × ℕ). pair.0) pairs) (writes_rise (plan_of p s).areas words (state_of p h s))) (λ j d few. omega arith))
event_clean p h s (Finish t n) = one_clean finish
event_clean p h s (Lost t why words) = none_clean
event_clean p h s (Close t) = none_clean

-- ---- histories

module _ (p : PlansData) (s : ℕ) (dump : ℕ × ℕ) (value : ℕ) where
  abbrev least : ℕ
  least = flushes (take dump.0 (plan_of p s).actions)

  -- what may be told after all of a history
  whole : (h : List Event) → IsWhole (written p h s) dump.1 least value → MayDump p h s dump value
  whole h is = record { later = []; past = h; first_part = refl; enough = subst (λ (n : ℕ). least ≤ n) (finishes_are p h s) is.enough; found = is.last }

  -- what may be told of a history may be told of a longer one
  longer : (e : Event) (h : List Event) → MayDump p h s dump value → MayDump p (e ∷ h) s dump value
  longer e h may = record { later = e ∷ may.later; past = may.past; first_part = ap (λ (g : List Event). e ∷ g) may.first_part; enough = may.enough; found = may.found }

  -- a value that was last in a first part of what was written, after enough finishes, may be told
  pub may_be_told : (h : List Event) → WasLast (written p h s) dump.1 least value → MayDump p h s dump value
  may_be_told [] was =
      let none : take was.length (written p [] s) ≡ written p [] s = ap (take was.length) (written_none p s) ∙ take-nil was.length ∙ sym (written_none p s) in
      whole [] record { enough = subst (λ (l : List Written). least ≤ finishes_in l) none was.enough; last = subst (λ (l : List Written). last_written l dump.1 ≡ value) none was.last }
  may_be_told (e ∷ h) was = by (eqb (stream_in e) s) (written_then p e h s) (may_be_told h)
    where
      by : (b : Bool) → written p (e ∷ h) s ≡ cond b (written p h s ++ written_by p h s e) (written p h s) → (WasLast (written p h s) dump.1 least value → MayDump p h s dump value) → MayDump p (e ∷ h) s dump value
      by true is rest =
          ⊎_elim (λ before. longer e h (rest before))
          (λ all. whole (e ∷ h) (subst (λ (l : List Written). IsWhole l dump.1 least value) (sym is) all))
          (cut (written p h s) (written_by p h s e) dump.1 least value (event_clean p h s e) (subst (λ (l : List Written). WasLast l dump.1 least value) is was))
      by false is rest = longer e h (rest (subst (λ (l : List Written). WasLast l dump.1 least value) is was))
