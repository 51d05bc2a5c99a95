-- Every legal history has an end, and so the rule for one thread has one history.
use Rattle.std.proofs.Common.{◌≡◌, ◌≢◌, ℕ, zero, suc, ◌+◌, ◌-◌, ◌≤◌, ◌⊎◌, inl, inr, eqb, Bool, true, false, cond, Option, Some, None, List, [], ◌∷◌, length, refl, sym, ap, ◌∙◌, arith}
use Rattle.std.proofs.lemmas.Bool.Decides.{nat_tests}
use Rattle.gpu_plan.specs.Plans.{PlansData, no_plan}
use Rattle.gpu_journal.specs.declared.event.Event.{Event}
use Rattle.gpu_journal.specs.World.{stream_in}
use Rattle.gpu_journal.specs.Legal.{IsLegal}
use Rattle.gpu_journal.specs.Serial.{next, IsPlayed, grown, events, most_of, most_events, serial}
use Rattle.serial_laws.specs.Scripts.{AreLawfulPlans}
use Rattle.serial_laws.specs.Laws.{LegalIsBounded, SerialIsPlayed, SerialIsAlone, SerialIsLegal, SerialIsComplete, SerialWantsNoMemory}
use Rattle.serial_laws.proofs.Choices.{played_wants_no_memory}
use Rattle.serial_laws.proofs.Passed.{lawful_of}
use Rattle.serial_laws.proofs.Obeying.{played_is_legal}
use Rattle.serial_laws.proofs.Ends.{ends_where_complete}
use Rattle.serial_laws.proofs.Spent.{events_of, obeys_known, few_events}
use Rattle.serial_laws.proofs.Sums.{total, total_zero, total_more, total_within}

-- ---- a legal history is no longer than the events of all its streams

all_counted : (p : PlansData) (h : List Event) → IsLegal p h → length h ≡ total (length p.plans) (λ k. events_of h (suc k))
all_counted p [] legal = sym (total_zero (length p.plans) (λ k. 0) (λ k. refl))
all_counted p (e ∷ h) legal =
    let isknown = obeys_known p e h legal.1 legal.0 in
    let low = isknown.0 in
    let high = isknown.1 in
    let is : suc (stream_in e - 1) ≡ stream_in e = omega arith in
    let more = total_more (length p.plans) (stream_in e - 1) (λ k. events_of h (suc k)) (λ k. events_of (e ∷ h) (suc k)) (omega arith) (own (stream_in e - 1) is) others in
    let rest = all_counted p h legal.1 in
    omega (arith, more, rest)
  where
    own : (i : ℕ) → suc i ≡ stream_in e → events_of (e ∷ h) (suc i) ≡ events_of h (suc i) + 1
    own i is = let same : eqb (stream_in e) (suc i) ≡ true = grind (arith, nat_tests) in ap (λ (b : Bool). cond b (events_of h (suc i) + 1) (events_of h (suc i))) same

    others : (k : ℕ) → k ≢ stream_in e - 1 → events_of (e ∷ h) (suc k) ≡ events_of h (suc k)
    others k d = let off : eqb (stream_in e) (suc k) ≡ false = differ (stream_in e) k d in ap (λ (b : Bool). cond b (events_of h (suc k) + 1) (events_of h (suc k))) off
      where
        differ : (s k : ℕ) → k ≢ s - 1 → eqb s (suc k) ≡ false
        differ s k d = by (eqb s (suc k)) refl
          where
            by : (b : Bool) → eqb s (suc k) ≡ b → b ≡ false
            by true e = let same : s ≡ suc k = grind (arith, nat_tests) in absurd (d (omega arith))
            by false e = refl

pub legal_is_bounded : LegalIsBounded
legal_is_bounded p h lawful legal =
    let all = all_counted p h legal in
    let most = total_within most_of p.plans no_plan (λ k. events_of h (suc k)) (λ k lt. few_events p h (suc k) (lawful_of p (suc k) lawful (omega arith, omega (arith, lt))).laid_out legal) in
    omega (arith, all, most)

played_few : (p : PlansData) (h : List Event) → AreLawfulPlans p → IsPlayed p h → length h ≤ most_events p
played_few p h lawful played = legal_is_bounded p h lawful (played_is_legal p h lawful played)

-- ---- there is no other serial history

-- a played history is that of its first events
played_is : (p : PlansData) (h : List Event) → IsPlayed p h → events p (length h) ≡ h
unfolding events
played_is p [] y = refl
played_is p (e ∷ h) y =
    let r = played_is p h y.1 in
    ap (λ (g : List Event). grown g (next p g)) r ∙ ap (grown h) y.0

ended_is : (p : PlansData) (h : List Event) (n m : ℕ) → events p n ≡ h → next p h ≡ None → events p (m + n) ≡ h
unfolding events
ended_is p h n zero r e = ap (events p) (zero_plus n) ∙ r
  where
    zero_plus : (n : ℕ) → 0 + n ≡ n
    zero_plus n = omega arith
ended_is p h n (suc m) r e =
    let q = ended_is p h n m r e in
    ap (events p) (suc_plus m n) ∙ ap (λ (g : List Event). grown g (next p g)) q ∙ ap (grown h) e
  where
    suc_plus : (m n : ℕ) → suc m + n ≡ suc (m + n)
    suc_plus m n = omega arith

pub serial_is_alone : SerialIsAlone
unfolding serial
serial_is_alone p h lawful is =
    let few = played_few p h lawful is.played in
    let k : most_events p - length h + length h ≡ most_events p = omega (arith, few) in
    sym (ap (events p) (sym k) ∙ ended_is p h (length h) (most_events p - length h) (played_is p h is.played) is.ended)

-- ---- and there is one

grown_played : (p : PlansData) (h : List Event) (o : Option Event) → next p h ≡ o → IsPlayed p h → IsPlayed p (grown h o)
grown_played p h None e y = y
grown_played p h (Some x) e y = (e, y)

events_played : (p : PlansData) (n : ℕ) → IsPlayed p (events p n)
unfolding events
events_played p zero = tt
events_played p (suc n) = grown_played p (events p n) (next p (events p n)) refl (events_played p n)

events_long : (p : PlansData) (n : ℕ) → (length (events p n) ≡ n) ⊎ (next p (events p n) ≡ None)
unfolding events
events_long p zero = inl refl
events_long p (suc n) = by (events_long p n) (next p (events p n)) refl
  where
    by : (length (events p n) ≡ n) ⊎ (next p (events p n) ≡ None) → (o : Option Event) → next p (events p n) ≡ o → (length (grown (events p n) o) ≡ suc n) ⊎ (next p (grown (events p n) o) ≡ None)
    by r None e = inr e
    by (inl l) (Some x) e = inl (ap suc l)
    by (inr q) (Some x) e = absurd (cc)

pub serial_is_played : SerialIsPlayed
unfolding serial
serial_is_played p lawful = record { played = events_played p (most_events p); ended = by (events_long p (most_events p)) (next p (events p (most_events p))) refl }
  where
    by : (length (events p (most_events p)) ≡ most_events p) ⊎ (next p (events p (most_events p)) ≡ None) → (o : Option Event) → next p (events p (most_events p)) ≡ o → next p (events p (most_events p)) ≡ None
    by r None e = e
    by (inl l) (Some x) e = let few = played_few p (x ∷ events p (most_events p)) lawful (e, events_played p (most_events p)) in absurd (omega arith)
    by (inr q) (Some x) e = q

pub serial_is_legal : SerialIsLegal
serial_is_legal p lawful = played_is_legal p (serial p) lawful (serial_is_played p lawful).played

pub serial_is_complete : SerialIsComplete
serial_is_complete p lawful = (ends_where_complete p (serial p) (serial_is_legal p lawful)).0 (serial_is_played p lawful).ended

pub serial_wants_no_memory : SerialWantsNoMemory
serial_wants_no_memory p lawful = played_wants_no_memory p (serial p) (serial_is_played p lawful).played
