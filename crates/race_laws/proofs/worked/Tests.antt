-- Tests that compute, and tell of one history that it is whole, and of its streams that their clients changed no word in
-- flight.
use Rattle.std.proofs.Common.{◌≡◌, ◌≢◌, ℕ, zero, suc, ◌+◌, ◌-◌, ◌<◌, ◌≤◌, eqb, Bool, true, false, not, ◌&&◌, ◌||◌, nat_le, Option, Some, None, is_some, is_ok, List, [], ◌∷◌, length, slice_index_or, IsSome, refl, ap, subst, ◌∙◌, arith}
use Rattle.std.specs.Prelude.{slice_get}
use Rattle.std.specs.List.{All, list_all}
use Rattle.std.proofs.lemmas.Bool.{and_parts, eqb-true, eqb-false, ne_eqb, leb-true, ltb-true, not-true}
use Rattle.std.proofs.lemmas.List.Elements.{All-nil, All-cons}
use Rattle.gpu_cmd.specs.Copied.{fetched_places, places_listed}
use Rattle.gpu_plan.specs.declared.plan.Action.{Action}
use Rattle.gpu_plan.specs.declared.plan.Action.TheVariants as actions
use Rattle.gpu_plan.specs.Plans.{PlanData, PlansData, plan_of, no_plan, is_closed}
use Rattle.gpu_plan.specs.Passes.{flushes}
use Rattle.gpu_plan.specs.Places.{flush_places}
use Rattle.gpu_plan.specs.Values.{value_at}
use Rattle.sync_core.specs.Standing.{IsKnown, is_known, is_open, first_order}
use Rattle.sync_core.specs.Pending.{is_blocked}
use Rattle.gpu_journal.specs.declared.event.Event.{Event}
use Rattle.gpu_journal.specs.declared.event.Event.TheVariants.{Order, Step, Finish, Lost, Close}
use Rattle.gpu_journal.specs.declared.event.Why.TheVariants.{Error, Memory}
use Rattle.gpu_journal.specs.World.{stream_in, known}
use Rattle.gpu_journal.specs.Waits.{standing_of, left_of, drawn, pending_in, IsOpen}
use Rattle.gpu_journal.specs.Facts.{flush_of, facts_at, verdict_at, reach}
use Rattle.gpu_journal.specs.Legal.{MayHaveBeenPut, Obeys, IsLegal}
use Rattle.gpu_journal.specs.Complete.{IsComplete, IsDone}
use Rattle.gpu_journal.specs.Serial.{is_close}
use Rattle.serial_laws.specs.Going.{is_memory_loss}
use Rattle.race_laws.specs.Works.{works}
use Rattle.race_laws.specs.Settled.{IsStill, NoneInFlight, ClosesFinished}
use Rattle.race_laws.specs.Laws.{IsWhole}
use Rattle.race_laws.proofs.Ending.{works_other}
use Rattle.race_laws.proofs.Ends.{closes_there}

-- ---- options, numbers and lists

abbrev pub is_this : Option ℕ → ℕ → Bool
is_this None n = false
is_this (Some m) n = eqb m n

this_from : (o : Option ℕ) (n : ℕ) → is_this o n ≡ true → o ≡ Some n
this_from None n e = absurd (cc)
this_from (Some m) n e = ap Some (eqb-true m n e)

abbrev pub same_list : List ℕ → List ℕ → Bool
same_list [] [] = true
same_list [] (y ∷ ys) = false
same_list (x ∷ xs) [] = false
same_list (x ∷ xs) (y ∷ ys) = eqb x y && same_list xs ys

list_from : (xs ys : List ℕ) → same_list xs ys ≡ true → xs ≡ ys
list_from [] [] e = refl
list_from [] (y ∷ ys) e = absurd (cc)
list_from (x ∷ xs) [] e = absurd (cc)
list_from (x ∷ xs) (y ∷ ys) e = let p = and_parts (eqb x y) (same_list xs ys) e in λ i. eqb-true x y p.0 i ∷ list_from xs ys p.1 i

known_from : (n s : ℕ) → is_known n s ≡ true → IsKnown n s
known_from n zero e = absurd (cc)
known_from n (suc k) e = let lt = ltb-true k n e in (omega arith, omega (arith, lt))

all_from : {X : Type 0} (P : X → Type 0) (test : X → Bool) → ((x : X) → test x ≡ true → P x) → (xs : List X) → list_all test xs ≡ true → All P xs
all_from P test so [] e = All-nil P
all_from P test so (x ∷ xs) e = let p = and_parts (test x) (list_all test xs) e in All-cons P x xs (so x p.0) (all_from P test so xs p.1)

-- ---- one event

abbrev pub opens : PlansData → List Event → ℕ → Bool
opens p g s = is_known (length p.plans) s && is_open (standing_of p g s)

open_from : (p : PlansData) (g : List Event) (s : ℕ) → opens p g s ≡ true → IsOpen p g s
open_from p g s e = let q = and_parts (is_known (length p.plans) s) (is_open (standing_of p g s)) e in record { known = known_from (length p.plans) s q.0; stays = q.1 }

-- the words are those of their places after k actions
abbrev pub put_after : PlansData → ℕ → ℕ → List (ℕ × ℕ) → Bool
put_after p s k words = list_all (λ (w : ℕ × ℕ). eqb (value_at (plan_of p s).actions k w.0) w.1) words

may_from : (p : PlansData) (g : List Event) (s k : ℕ) (words : List (ℕ × ℕ)) → flush_of p g s ≤ k → k ≤ reach p g s → put_after p s k words ≡ true → All (MayHaveBeenPut p g s) words
may_from p g s k words since until e = all_from (MayHaveBeenPut p g s) (λ (w : ℕ × ℕ). eqb (value_at (plan_of p s).actions k w.0) w.1) (λ w q. record { done = k; since = since; until = until; held = eqb-true (value_at (plan_of p s).actions k w.0) w.1 q }) words e

-- the stream can run
abbrev pub runs : PlansData → List Event → ℕ → Bool
runs p g s = is_some (first_order (left_of p g s)) && (not (is_blocked s (left_of p g s) (pending_in p g)) && nat_le (flush_of p g s) (reach p g s))

-- the words are those to be fetched, with the values of the flush or of the client's bound
abbrev pub fetches : PlansData → List Event → ℕ → List (ℕ × ℕ) → Bool
fetches p g s words =
    not (eqb (facts_at p g s).get (facts_at p g s).put) && (same_list (places_listed words) (fetched_places words (facts_at p g s)) && (put_after p s (flush_of p g s) words || put_after p s (reach p g s) words))

-- losses by an error are left out
abbrev pub obeys : PlansData → List Event → Event → Bool
obeys p g (Order s n c) = opens p g s && (eqb n (drawn p g + 1) && is_this (slice_get (flush_places (plan_of p s).actions) (known p g s).ordered) c)
obeys p g (Step s words) = runs p g s && (fetches p g s words && is_ok (verdict_at p g s words))
obeys p g (Finish s n) = runs p g s && (is_this (first_order (left_of p g s)) n && eqb (facts_at p g s).get (facts_at p g s).put)
obeys p g (Lost s (Error error) words) = false
obeys p g (Lost s Memory words) = opens p g s && same_list (places_listed words) []
obeys p g (Close s) = opens p g s && (eqb (known p g s).ordered (flushes (plan_of p s).actions) && is_close (slice_get (plan_of p s).actions (reach p g s)))

close_from : (o : Option Action) → is_close o ≡ true → o ≡ Some actions.Close
close_from None e = absurd (cc)
close_from (Some (actions.Put place value)) e = absurd (cc)
close_from (Some (actions.Flush put fences)) e = absurd (cc)
close_from (Some actions.Finish) e = absurd (cc)
close_from (Some (actions.Token token)) e = absurd (cc)
close_from (Some actions.Close) e = refl

record Runs (p : PlansData) (g : List Event) (s : ℕ) : Type 0 where
  some : IsSome (first_order (left_of p g s))
  free : is_blocked s (left_of p g s) (pending_in p g) ≡ false
  reached : flush_of p g s ≤ reach p g s

runs_from : (p : PlansData) (g : List Event) (s : ℕ) → runs p g s ≡ true → Runs p g s
runs_from p g s e =
    let one = and_parts (is_some (first_order (left_of p g s))) _ e in
    let two = and_parts (not (is_blocked s (left_of p g s) (pending_in p g))) (nat_le (flush_of p g s) (reach p g s)) one.1 in
    record { some = one.0; free = not-true (is_blocked s (left_of p g s) (pending_in p g)) two.0; reached = leb-true (flush_of p g s) (reach p g s) two.1 }

record Fetches (p : PlansData) (g : List Event) (s : ℕ) (words : List (ℕ × ℕ)) : Type 0 where
  differ : (facts_at p g s).get ≢ (facts_at p g s).put
  places : places_listed words ≡ fetched_places words (facts_at p g s)
  put : All (MayHaveBeenPut p g s) words

fetches_from : (p : PlansData) (g : List Event) (s : ℕ) (words : List (ℕ × ℕ)) → flush_of p g s ≤ reach p g s → fetches p g s words ≡ true → Fetches p g s words
fetches_from p g s words reached e =
    let one = and_parts (not (eqb (facts_at p g s).get (facts_at p g s).put)) _ e in
    let two = and_parts (same_list (places_listed words) (fetched_places words (facts_at p g s))) _ one.1 in
    record {
      differ = eqb-false (facts_at p g s).get (facts_at p g s).put (not-true (eqb (facts_at p g s).get (facts_at p g s).put) one.0);
      places = list_from (places_listed words) (fetched_places words (facts_at p g s)) two.0;
      put = by (put_after p s (flush_of p g s) words) refl two.1;
    }
  where
    by : (b : Bool) → put_after p s (flush_of p g s) words ≡ b → (b || put_after p s (reach p g s) words) ≡ true → All (MayHaveBeenPut p g s) words
    by true q e = may_from p g s (flush_of p g s) words (omega arith) reached q
    by false q e = may_from p g s (reach p g s) words reached (omega arith) e

obeys_from : (p : PlansData) (g : List Event) (e : Event) → obeys p g e ≡ true → Obeys p g e
obeys_from p g (Order s n c) e =
    let one = and_parts (opens p g s) _ e in
    let two = and_parts (eqb n (drawn p g + 1)) (is_this (slice_get (flush_places (plan_of p s).actions) (known p g s).ordered) c) one.1 in
    record {
      rule_1 = open_from p g s one.0;
      rule_2 = eqb-true n (drawn p g + 1) two.0;
      rule_3 = this_from (slice_get (flush_places (plan_of p s).actions) (known p g s).ordered) c two.1;
      rule_4 = tt;
      rule_5 = tt;
      rule_6 = tt;
      rule_7 = tt;
      rule_8 = tt;
      rule_9 = tt;
      rule_10 = tt;
      rule_11 = tt;
      rule_12 = tt;
    }
obeys_from p g (Step s words) e =
    let one = and_parts (runs p g s) _ e in
    let two = and_parts (fetches p g s words) (is_ok (verdict_at p g s words)) one.1 in
    let r = runs_from p g s one.0 in
    let f = fetches_from p g s words r.reached two.0 in
    record {
      rule_1 = tt;
      rule_2 = tt;
      rule_3 = tt;
      rule_4 = r.some;
      rule_5 = r.free;
      rule_6 = r.reached;
      rule_7 = (f.differ, f.places);
      rule_8 = f.put;
      rule_9 = two.1;
      rule_10 = tt;
      rule_11 = tt;
      rule_12 = tt;
    }
obeys_from p g (Finish s n) e =
    let one = and_parts (runs p g s) _ e in
    let two = and_parts (is_this (first_order (left_of p g s)) n) (eqb (facts_at p g s).get (facts_at p g s).put) one.1 in
    let r = runs_from p g s one.0 in
    record {
      rule_1 = tt;
      rule_2 = tt;
      rule_3 = tt;
      rule_4 = this_from (first_order (left_of p g s)) n two.0;
      rule_5 = r.free;
      rule_6 = r.reached;
      rule_7 = tt;
      rule_8 = tt;
      rule_9 = tt;
      rule_10 = eqb-true (facts_at p g s).get (facts_at p g s).put two.1;
      rule_11 = tt;
      rule_12 = tt;
    }
obeys_from p g (Lost s (Error error) words) e = absurd (cc)
obeys_from p g (Lost s Memory words) e =
    let one = and_parts (opens p g s) (same_list (places_listed words) []) e in
    record {
      rule_1 = tt;
      rule_2 = tt;
      rule_3 = tt;
      rule_4 = tt;
      rule_5 = tt;
      rule_6 = tt;
      rule_7 = tt;
      rule_8 = tt;
      rule_9 = tt;
      rule_10 = tt;
      rule_11 = (open_from p g s one.0, none words one.1);
      rule_12 = tt;
    }
  where
    none : (words : List (ℕ × ℕ)) → same_list (places_listed words) [] ≡ true → words ≡ []
    none [] e = refl
    none (w ∷ words) e = absurd (cc)
obeys_from p g (Close s) e =
    let one = and_parts (opens p g s) _ e in
    let two = and_parts (eqb (known p g s).ordered (flushes (plan_of p s).actions)) (is_close (slice_get (plan_of p s).actions (reach p g s))) one.1 in
    record {
      rule_1 = tt;
      rule_2 = tt;
      rule_3 = tt;
      rule_4 = tt;
      rule_5 = tt;
      rule_6 = tt;
      rule_7 = tt;
      rule_8 = tt;
      rule_9 = tt;
      rule_10 = tt;
      rule_11 = tt;
      rule_12 = record { still_open = open_from p g s one.0; ordered = eqb-true (known p g s).ordered (flushes (plan_of p s).actions) two.0; reached = close_from (slice_get (plan_of p s).actions (reach p g s)) two.1 };
    }

-- ---- a whole history

abbrev pub is_legal : PlansData → List Event → Bool
is_legal p [] = true
is_legal p (e ∷ h) = obeys p h e && is_legal p h

pub legal_from : (p : PlansData) (h : List Event) → is_legal p h ≡ true → IsLegal p h
legal_from p [] e = tt
legal_from p (event ∷ h) e = let q = and_parts (obeys p h event) (is_legal p h) e in (obeys_from p h event q.0, legal_from p h q.1)

-- nothing is left to do for the stream
abbrev pub is_over : PlansData → List Event → ℕ → Bool
is_over p h s =
    not (is_open (standing_of p h s))
    || (not (is_closed (plan_of p s).actions) && (eqb (known p h s).ordered (flushes (plan_of p s).actions) && eqb (known p h s).finished (flushes (plan_of p s).actions)))

over_from : (p : PlansData) (h : List Event) (s : ℕ) → is_over p h s ≡ true → is_open (standing_of p h s) ≡ true → IsDone p h s
over_from p h s e stays =
    let closed = is_closed (plan_of p s).actions in
    let count = flushes (plan_of p s).actions in
    let all = left (is_open (standing_of p h s)) (not closed && (eqb (known p h s).ordered count && eqb (known p h s).finished count)) stays e in
    let one = and_parts (not closed) (eqb (known p h s).ordered count && eqb (known p h s).finished count) all in
    let two = and_parts (eqb (known p h s).ordered count) (eqb (known p h s).finished count) one.1 in
    record { stays_open = not-true closed one.0; ordered = eqb-true (known p h s).ordered count two.0; finished = eqb-true (known p h s).finished count two.1 }
  where
    left : (a b : Bool) → a ≡ true → (not a || b) ≡ true → b ≡ true
    left true b q e = e
    left false b q e = absurd (cc)

-- of the streams 1 to n
abbrev pub are_over : PlansData → List Event → ℕ → Bool
are_over p h zero = true
are_over p h (suc n) = is_over p h (suc n) && are_over p h n

all_over : (p : PlansData) (h : List Event) (n s : ℕ) → are_over p h n ≡ true → 0 < s → s ≤ n → is_over p h s ≡ true
all_over p h zero s e a b = absurd (omega (arith, a, b))
all_over p h (suc n) s e a b = by (eqb s (suc n)) refl (λ le. all_over p h n s q.1 a le)
  where
    q : (is_over p h (suc n) ≡ true) × (are_over p h n ≡ true)
    q = and_parts (is_over p h (suc n)) (are_over p h n) e

    by : (c : Bool) → eqb s (suc n) ≡ c → (s ≤ n → is_over p h s ≡ true) → is_over p h s ≡ true
    by true t rest = ap (is_over p h) (eqb-true s (suc n) t) ∙ q.0
    by false t rest = let other = eqb-false s (suc n) t in rest (omega (arith, b, other))

pub complete_from : (p : PlansData) (h : List Event) → are_over p h (length p.plans) ≡ true → IsComplete p h
complete_from p h e = λ s o. over_from p h s (all_over p h (length p.plans) s e o.known.0 o.known.1) o.stays

-- legal, complete, and no stream lost as out of memory
abbrev pub is_whole : PlansData → List Event → Bool
is_whole p h = is_legal p h && (are_over p h (length p.plans) && list_all (λ event. not (is_memory_loss event)) h)

pub whole_from : (p : PlansData) (h : List Event) → is_whole p h ≡ true → IsWhole p h
whole_from p h e =
    let one = and_parts (is_legal p h) _ e in
    let two = and_parts (are_over p h (length p.plans)) (list_all (λ event. not (is_memory_loss event)) h) one.1 in
    record {
      legal = legal_from p h one.0;
      complete = complete_from p h two.0;
      kept = all_from (λ event. is_memory_loss event ≡ false) (λ event. not (is_memory_loss event)) (λ event q. not-true (is_memory_loss event) q) h two.1;
    }

-- ---- words in flight

-- of each word the value is the same after each of n numbers of actions from a on
abbrev pub stay : PlansData → ℕ → ℕ → ℕ → List (ℕ × ℕ) → Bool
stay p s a zero words = true
stay p s a (suc n) words = put_after p s a words && stay p s (a + 1) n words

abbrev pub are_still : PlansData → List Event → ℕ → List (ℕ × ℕ) → Bool
are_still p g s words = stay p s (flush_of p g s) (reach p g s + 1 - flush_of p g s) words

stay_from : (p : PlansData) (s a n k : ℕ) (words : List (ℕ × ℕ)) → stay p s a n words ≡ true → a ≤ k → k < a + n → put_after p s k words ≡ true
stay_from p s a zero k words e since until = absurd (omega (arith, since, until))
stay_from p s a (suc n) k words e since until = by (eqb k a) refl (λ le lt. stay_from p s (a + 1) n k words q.1 le lt)
  where
    q : (put_after p s a words ≡ true) × (stay p s (a + 1) n words ≡ true)
    q = and_parts (put_after p s a words) (stay p s (a + 1) n words) e

    by : (c : Bool) → eqb k a ≡ c → (a + 1 ≤ k → k < a + 1 + n → put_after p s k words ≡ true) → put_after p s k words ≡ true
    by true t rest = ap (λ (m : ℕ). put_after p s m words) (eqb-true k a t) ∙ q.0
    by false t rest = let other = eqb-false k a t in rest (omega (arith, since, other)) (omega (arith, until))

word_from : (p : PlansData) (s k : ℕ) (words : List (ℕ × ℕ)) → put_after p s k words ≡ true → All (λ (w : ℕ × ℕ). value_at (plan_of p s).actions k w.0 ≡ w.1) words
word_from p s k words e = all_from (λ (w : ℕ × ℕ). value_at (plan_of p s).actions k w.0 ≡ w.1) (λ (w : ℕ × ℕ). eqb (value_at (plan_of p s).actions k w.0) w.1) (λ w q. eqb-true (value_at (plan_of p s).actions k w.0) w.1 q) words e

still_from : (p : PlansData) (g : List Event) (s : ℕ) (words : List (ℕ × ℕ)) → are_still p g s words ≡ true → All (IsStill p g s) words
still_from p g s words e = λ i d lt k since until. word_from p s k words (stay_from p s (flush_of p g s) (reach p g s + 1 - flush_of p g s) k words e since (omega (arith, since, until))) i d lt

-- of every event
abbrev pub none_in_flight : PlansData → List Event → Bool
none_in_flight p [] = true
none_in_flight p (Step s words ∷ g) = are_still p g s words && none_in_flight p g
none_in_flight p (Lost s (Error error) words ∷ g) = are_still p g s words && none_in_flight p g
none_in_flight p (Lost s Memory words ∷ g) = none_in_flight p g
none_in_flight p (Order s n c ∷ g) = none_in_flight p g
none_in_flight p (Finish s n ∷ g) = none_in_flight p g
none_in_flight p (Close s ∷ g) = none_in_flight p g

pub flight_from : (p : PlansData) (h : List Event) (s : ℕ) → none_in_flight p h ≡ true → NoneInFlight p h s
flight_from p [] s e = tt
flight_from p (Step t words ∷ g) s e = let q = and_parts (are_still p g t words) (none_in_flight p g) e in (λ own. subst (λ (u : ℕ). All (IsStill p g u) words) own (still_from p g t words q.0), flight_from p g s q.1)
flight_from p (Lost t (Error error) words ∷ g) s e = let q = and_parts (are_still p g t words) (none_in_flight p g) e in (λ own. subst (λ (u : ℕ). All (IsStill p g u) words) own (still_from p g t words q.0), flight_from p g s q.1)
flight_from p (Lost t Memory words ∷ g) s e = (tt, flight_from p g s e)
flight_from p (Order t n c ∷ g) s e = (tt, flight_from p g s e)
flight_from p (Finish t n ∷ g) s e = (tt, flight_from p g s e)
flight_from p (Close t ∷ g) s e = (tt, flight_from p g s e)

-- ---- clients that never close

abbrev pub none_close : List PlanData → Bool
none_close plans = list_all (λ plan. not (is_closed plan.actions)) plans

opened : (plans : List PlanData) (k : ℕ) → none_close plans ≡ true → is_closed (slice_index_or plans k no_plan).actions ≡ false
opened [] k e = refl
opened (plan ∷ plans) zero e = not-true (is_closed plan.actions) (and_parts (not (is_closed plan.actions)) (none_close plans) e).0
opened (plan ∷ plans) (suc k) e = opened plans k (and_parts (not (is_closed plan.actions)) (none_close plans) e).1

pub closes_from : (p : PlansData) (s : ℕ) → none_close p.plans ≡ true → ClosesFinished (plan_of p s).actions
closes_from p zero e c at = absurd (cc)
closes_from p (suc k) e c at =
    let off = opened p.plans k e in
    let on = closes_there (plan_of p (suc k)).actions c at in
    absurd (cc)

-- ---- streams that do nothing

-- no event is of a stream above n
abbrev pub are_within : ℕ → List Event → Bool
are_within n [] = true
are_within n (e ∷ h) = nat_le (stream_in e) n && are_within n h

pub works_none : (n : ℕ) (h : List Event) (s : ℕ) → are_within n h ≡ true → n < s → works h s ≡ []
works_none n [] s e above = refl
works_none n (event ∷ h) s e above =
    let q = and_parts (nat_le (stream_in event) n) (are_within n h) e in
    let low = leb-true (stream_in event) n q.0 in
    works_other event h s (ne_eqb (stream_in event) s (λ same. absurd (omega (arith, low, same, above)))) ∙ works_none n h s q.1 above
