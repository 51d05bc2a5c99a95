-- A dumped place gets another value, and when it last had the old one is kept.
use Rattle.std.proofs.Common.{◌≡◌, ◌≢◌, ℕ, zero, suc, ◌+◌, ◌≤◌, ◌<◌, inl, inr, Bool, true, false, cond, eqb, Some, List, [], ◌∷◌, ◌++◌, length, get_or, take, set, map, replicate, refl, sym, ap, ◌∙◌, arith}
use Rattle.std.specs.Prelude.{◌&&◌, if◌then◌else◌, ◌==◌}
use Rattle.std.specs.List.{All}
use Rattle.std.specs.List.Sorted.{IsStrictlyIncreasing}
use Rattle.std.proofs.lemmas.Bool.{cases_eq, cases_lt, eq-eqb, false≢true}
use Rattle.std.proofs.lemmas.Bool.Decides.{nat_tests}
use Rattle.std.proofs.lemmas.List.{get_or-set_same, get_or-set_other, get_or-take, get_or-map, get_or_past, get_or_read, length-map, length-take-le, take_more}
use Rattle.std.proofs.lemmas.List.Elements.{All-head, All-tail, All-more, All-weaker}
use Rattle.std.proofs.lemmas.List.Kept.{AllPairs-from_increasing}
use Rattle.gpu_plan.specs.Plans.{PlanData}
use Rattle.stream_state.specs.Writes.{Writes, left_by_writes}
use Rattle.journal_verify.specs.Reached.{last_of}
use Rattle.journal_verify.specs.Dumped.{DumpedData, is_dumped_in, last_with, IsUntouched, IsWrittenTo, HasTakenUp}

apart_test : (a b : ℕ) → (a ≡ b → ⊥) → eqb a b ≡ false
apart_test a b other = by (eqb a b) refl
  where
    by : (t : Bool) → eqb a b ≡ t → eqb a b ≡ false
    by true same = absurd (other (grind (arith, nat_tests)))
    by false same = same

-- ---- before any event

-- there is room for one more dump's place
pub room_more : (dumps : List (ℕ × ℕ)) (i count most : ℕ) (d : ℕ × ℕ) → i < length dumps → All (λ (dump : ℕ × ℕ). dump.1 < count) (take i dumps) → count ≤ most → (get_or dumps i d).1 < most → All (λ (dump : ℕ × ℕ). dump.1 < most) (take (i + 1) dumps)
room_more dumps i count most d lt before more here =
    All-more (λ (dump : ℕ × ℕ). dump.1 < most) dumps i d lt (All-weaker (λ (dump : ℕ × ℕ). dump.1 < count) (λ (dump : ℕ × ℕ). dump.1 < most) (λ dump less. omega arith) (take i dumps) before) here

pub watched_within : (l : List Bool) (p : ℕ) → get_or l p false ≡ true → p < length l
watched_within l p there = elim (cases_lt p (length l)) [
  | inl lt ↦ lt
  | inr past ↦ absurd (false≢true (sym (get_or_past l p false past) ∙ there))
]

stays_watched : (l : List Bool) (p q : ℕ) → get_or l q false ≡ true → get_or (set l p true) q false ≡ true
stays_watched l p q there = elim (cases_eq q p) [
  | inl same ↦ (
      let lt : p < length l = let inside = watched_within l q there in omega (arith, same, inside) in
      ap (λ (k : ℕ). get_or (set l p true) k false) same ∙ get_or-set_same l p true false lt)
  | inr apart ↦ get_or-set_other l p q true false apart ∙ there
]

-- one more dump's place is dumped
pub watched_more : (dumps : List (ℕ × ℕ)) (i : ℕ) (d : ℕ × ℕ) (l : List Bool) → i < length dumps → (get_or dumps i d).1 < length l → All (λ (dump : ℕ × ℕ). get_or l dump.1 false ≡ true) (take i dumps)
    → All (λ (dump : ℕ × ℕ). get_or (set l (get_or dumps i d).1 true) dump.1 false ≡ true) (take (i + 1) dumps)
watched_more dumps i d l lt inside before =
    let P : ℕ × ℕ → Type 0 = λ dump. get_or l dump.1 false ≡ true in
    let Q : ℕ × ℕ → Type 0 = λ dump. get_or (set l (get_or dumps i d).1 true) dump.1 false ≡ true in
    All-more Q dumps i d lt (All-weaker P Q (λ dump was. stays_watched l (get_or dumps i d).1 dump.1 was) (take i dumps) before) (get_or-set_same l (get_or dumps i d).1 true false inside)

zeros : (n k : ℕ) → ◌≡◌ {A = ℕ} (get_or (replicate n 0) k 0) 0
zeros zero k = refl
zeros (suc n) zero = refl
zeros (suc n) (suc k) = zeros n k

pub untouched : (plan : PlanData) (count : ℕ) (d : DumpedData) → All (λ (dump : ℕ × ℕ). is_dumped_in d dump.1 ≡ true) plan.dumps → d.values ≡ replicate count 0 → d.left ≡ [] → IsUntouched plan d
untouched plan count d watched values left = record {
  watched = watched;
  values = λ place. ap (λ (l : List ℕ). get_or l place 0) values ∙ zeros count place;
  left = left;
}

-- ---- one write

pub written_to : (p v last n : ℕ) (old new : DumpedData) → p < length old.values → last ≡ get_or old.values p 0 → new.is_dumped ≡ old.is_dumped → new.values ≡ set old.values p v
    → ((q w : ℕ) → last_of new.left q w ≡ cond (eqb p q && eqb last w) (Some n) (last_of old.left q w)) → IsWrittenTo p v n old new
written_to p v last n old new lt at dumped values left = record {
  dumped = dumped;
  values = λ q there. ap (λ (l : List ℕ). get_or l q 0) values ∙ value_at q (eqb p q) refl;
  left = λ q w there. left q w ∙ left_at q w (eqb p q) refl;
}
  where
    value_at : (q : ℕ) (b : Bool) → eqb p q ≡ b → get_or (set old.values p v) q 0 ≡ cond b v (get_or old.values q 0)
    value_at q true same =
        let here : p ≡ q = grind (arith, nat_tests) in
        ap (λ (k : ℕ). get_or (set old.values p v) k 0) (sym here) ∙ get_or-set_same old.values p v 0 lt
    value_at q false other =
        let apart : q ≢ p = λ same. let test : eqb p q ≡ true = grind (arith, nat_tests) in absurd (cc) in
        get_or-set_other old.values p q v 0 apart

    left_at : (q w : ℕ) (b : Bool) → eqb p q ≡ b → cond (b && eqb last w) (Some n) (last_of old.left q w) ≡ cond b (last_with old n q w) (last_of old.left q w)
    left_at q w true same =
        let here : p ≡ q = grind (arith, nat_tests) in
        ap (λ (x : ℕ). cond (eqb x w) (Some n) (last_of old.left q w)) (at ∙ ap (λ (k : ℕ). get_or old.values k 0) here)
    left_at q w false other = refl

-- a write to a place that is not dumped
pub unwatched : (p v n : ℕ) (d : DumpedData) → is_dumped_in d p ≡ false → IsWrittenTo p v n d d
unwatched p v n d none = record {
  dumped = refl;
  values = λ q there. sym (ap (λ (b : Bool). cond b v (get_or d.values q 0)) (apart q there));
  left = λ q w there. sym (ap (λ (b : Bool). cond b (last_with d n q w) (last_of d.left q w)) (apart q there));
}
  where
    apart : (q : ℕ) → is_dumped_in d q ≡ true → eqb p q ≡ false
    apart q there = apart_test p q (λ same. false≢true (sym none ∙ ap (is_dumped_in d) same ∙ there))

-- ---- the writes of a step

last_of_both : (first second : Writes) (q before : ℕ) → left_by_writes (first ++ second) q before ≡ left_by_writes second q (left_by_writes first q before)
last_of_both [] second q before = refl
last_of_both (write ∷ first) second q before = last_of_both first second q (if write.0 == q then write.1 else before)

not_written : (ws : Writes) (q before : ℕ) → All (λ (write : ℕ × ℕ). write.0 ≡ q → ⊥) ws → left_by_writes ws q before ≡ before
not_written [] q before none = refl
not_written (write ∷ ws) q before none =
    let P : ℕ × ℕ → Type 0 = λ write. write.0 ≡ q → ⊥ in
    ap (λ (b : Bool). left_by_writes ws q (cond b write.1 before)) (apart_test write.0 q (All-head P write ws none)) ∙ not_written ws q before (All-tail P write ws none)

-- no earlier write is to the place of one
earlier_apart : (ws : Writes) (i : ℕ) (w : ℕ × ℕ) → IsStrictlyIncreasing (map (λ (write : ℕ × ℕ). write.0) ws) → i < length ws → w ≡ get_or ws i w → All (λ (write : ℕ × ℕ). write.0 ≡ w.0 → ⊥) (take i ws)
earlier_apart ws i w rising lt at k d inside same =
    let place : ℕ × ℕ → ℕ = λ write. write.0 in
    let many : length (take i ws) ≡ i = length-take-le i ws (omega arith) in
    let below : k < i = omega (arith, many, inside) in
    let low : k < length ws = omega arith in
    let all : length (map place ws) ≡ length ws = length-map ws place in
    let less : get_or (map place ws) k d.0 < get_or (map place ws) i d.0 = AllPairs-from_increasing (map place ws) rising k i d.0 below (omega (arith, all)) in
    let first : get_or (map place ws) k d.0 ≡ w.0 = get_or-map place ws k d d.0 low ∙ ap place (sym (get_or-take i ws k d below)) ∙ same in
    let second : get_or (map place ws) i d.0 ≡ w.0 = get_or-map place ws i d d.0 lt ∙ ap place (sym (get_or_read ws i w lt at d)) in
    omega (arith, less, first, second)

pub taken_up_none : (n : ℕ) (d : DumpedData) → HasTakenUp [] n d d
taken_up_none n d = record {
  dumped = refl;
  values = λ q there. refl;
  left = λ q v there other. sym (ap (λ (b : Bool). cond b (Some n) (last_of d.left q v)) (apart_test (get_or d.values q 0) v other));
}

pub taken_up_more : (ws : Writes) (i n : ℕ) (w : ℕ × ℕ) (start mid new : DumpedData) → IsStrictlyIncreasing (map (λ (write : ℕ × ℕ). write.0) ws) → i < length ws → w ≡ get_or ws i w
    → HasTakenUp (take i ws) n start mid → IsWrittenTo w.0 w.1 n mid new → HasTakenUp (take (i + 1) ws) n start new
taken_up_more ws i n w start mid new rising lt at before now = record {
  dumped = now.dumped ∙ before.dumped;
  values = λ q there. now.values q (same q there) ∙ ap (λ (x : ℕ). cond (eqb w.0 q) w.1 x) (before.values q there) ∙ sym (written q);
  left = λ q v there other. now.left q v (same q there) ∙ left_at q v there other (eqb w.0 q) refl;
}
  where
    same : (q : ℕ) → is_dumped_in start q ≡ true → is_dumped_in mid q ≡ true
    same q there = ap (λ (l : List Bool). get_or l q false) before.dumped ∙ there

    written : (q : ℕ) → left_by_writes (take (i + 1) ws) q (get_or start.values q 0) ≡ cond (eqb w.0 q) w.1 (left_by_writes (take i ws) q (get_or start.values q 0))
    written q =
        ap (λ (l : Writes). left_by_writes l q (get_or start.values q 0)) (take_more ws i w lt)
        ∙ last_of_both (take i ws) (get_or ws i w ∷ []) q (get_or start.values q 0)
        ∙ ap (λ (x : ℕ × ℕ). cond (eqb x.0 q) x.1 (left_by_writes (take i ws) q (get_or start.values q 0))) (sym at)

    -- the place that is written has the value that it had at the start
    unchanged : (q : ℕ) → is_dumped_in start q ≡ true → w.0 ≡ q → get_or mid.values q 0 ≡ get_or start.values q 0
    unchanged q there here =
        before.values q there
        ∙ ap (λ (k : ℕ). left_by_writes (take i ws) k (get_or start.values q 0)) (sym here)
        ∙ not_written (take i ws) w.0 (get_or start.values q 0) (earlier_apart ws i w rising lt at)

    kept : (q v : ℕ) → is_dumped_in start q ≡ true → get_or mid.values q 0 ≡ get_or start.values q 0 → (b : Bool) → eqb (get_or mid.values q 0) v ≡ b → cond b (Some n) (last_of mid.left q v) ≡ last_with start n q v
    kept q v there is true test = sym (ap (λ (b : Bool). cond b (Some n) (last_of start.left q v)) (ap (λ (x : ℕ). eqb x v) (sym is) ∙ test))
    kept q v there is false test = before.left q v there (λ found. let yes' : eqb (get_or mid.values q 0) v ≡ true = eq-eqb (get_or mid.values q 0) v found in absurd (cc))

    left_at : (q v : ℕ) → is_dumped_in start q ≡ true → (get_or new.values q 0 ≡ v → ⊥) → (b : Bool) → eqb w.0 q ≡ b → cond b (last_with mid n q v) (last_of mid.left q v) ≡ last_with start n q v
    left_at q v there other true test =
        let here : w.0 ≡ q = grind (arith, nat_tests) in
        kept q v there (unchanged q there here) (eqb (get_or mid.values q 0) v) refl
    left_at q v there other false test =
        before.left q v there (λ found. other (now.values q (same q there) ∙ ap (λ (b : Bool). cond b w.1 (get_or mid.values q 0)) test ∙ found))
