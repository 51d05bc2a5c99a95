-- What one client has read, over the events and the actions of a round.
use Rattle.std.proofs.Common.{◌≡◌, ℕ, suc, ◌+◌, ◌≤◌, ◌<◌, ◌⊎◌, inl, inr, eqb, Bool, true, false, cond, Option, None, Some, List, [], ◌∷◌, ◌++◌, length, map, drop, refl, sym, ap, subst, ◌∙◌, arith}
use Rattle.std.specs.Prelude.{nat_lt, slice_get}
use Rattle.std.specs.List.{All}
use Rattle.std.proofs.lemmas.Bool.{ltb-true, lt-ltb}
use Rattle.std.proofs.lemmas.Bool.Decides.{nat_tests}
use Rattle.std.proofs.lemmas.List.{map-append, append-nil, append_assoc, length-map, drop_at}
use Rattle.std.proofs.lemmas.List.Elements.{All-nil, All-weaker, All-push}
use Rattle.gpu_word.specs.Results.{Written, last_written}
use Rattle.gpu_plan.specs.Plans.{PlansData, plan_of, RiseFrom}
use Rattle.gpu_journal.specs.declared.event.Event.{Event}
use Rattle.gpu_journal.specs.Written.{written, result_at}
use Rattle.gpu_journal.specs.Dumps.{passed_at}
use Rattle.gpu_journal.specs.Serial.{count}
use Rattle.serial_laws.proofs.Counts.{count_grows}
use Rattle.gpu_run.specs.Dumps.{dump_read}
use Rattle.gpu_run.specs.Reading.{dump_now, read_with, read_left, HasRead}

-- ---- one event more

-- where the client had passed an action, it passed it then
passed_before : (p : PlansData) (e : Event) (h : List Event) (s action : ℕ) → action < count p h s → passed_at p (e ∷ h) s action ≡ passed_at p h s action
passed_before p e h s action lt = ap (λ (b : Bool). cond b (passed_at p h s action) (e ∷ h)) (lt-ltb action (count p h s) lt)

same_found : (p : PlansData) (e : Event) (h : List Event) (s k : ℕ) (dumps : List (ℕ × ℕ)) → k ≤ count p h s → All (λ dump. dump.0 < k) dumps → map (dump_read p h s) dumps ≡ map (dump_read p (e ∷ h) s) dumps
same_found p e h s k [] le passed = refl
same_found p e h s k (d ∷ dumps) le passed =
    let lt : d.0 < k = passed 0 d (omega arith) in
    let one : dump_read p h s d ≡ dump_read p (e ∷ h) s d = ap (λ (g : List Event). (d.0, d.1, result_at p g s d.1)) (sym (passed_before p e h s d.0 (omega (arith, le, lt)))) in
    ap (λ (x : ℕ × ℕ × ℕ). x ∷ map (dump_read p h s) dumps) one ∙ ap (λ (l : List (ℕ × ℕ × ℕ)). dump_read p (e ∷ h) s d ∷ l) (same_found p e h s k dumps le (λ i x lt. passed (suc i) x (omega (arith, lt))))

-- what a client must find stands there still, where the event writes nothing, or the client has done all that it could
still_there : (p : PlansData) (e : Event) (h : List Event) (s done : ℕ) → (written p (e ∷ h) s ≡ written p h s) ⊎ (count p h s ≤ done) → ((action place : ℕ) → done ≤ action → result_at p (passed_at p h s action) s place ≡ result_at p h s place)
    → (action place : ℕ) → done ≤ action → result_at p (passed_at p (e ∷ h) s action) s place ≡ result_at p (e ∷ h) s place
still_there p e h s done quiet still action place le = by (nat_lt action (count p h s)) refl
  where
    now : (written p (e ∷ h) s ≡ written p h s) ⊎ (count p h s ≤ done) → action < count p h s → result_at p h s place ≡ result_at p (e ∷ h) s place
    now (inl same) lt = ap (λ (list : List Written). last_written list place) (sym same)
    now (inr far) lt = absurd (omega (arith, lt, far, le))

    by : (b : Bool) → nat_lt action (count p h s) ≡ b → result_at p (cond b (passed_at p h s action) (e ∷ h)) s place ≡ result_at p (e ∷ h) s place
    by true lt = still action place le ∙ now quiet (ltb-true action (count p h s) lt)
    by false at = refl

pub read_on : (p : PlansData) (e : Event) (h : List Event) (s done : ℕ) (read : List (ℕ × ℕ × ℕ)) → (written p (e ∷ h) s ≡ written p h s) ⊎ (count p h s ≤ done) → HasRead p h s done read → HasRead p (e ∷ h) s done read
read_on p e h s done read quiet old =
    let grows = count_grows p e h s in
    let within = old.within in
    record {
      behind = old.behind;
      ahead = old.ahead;
      dumps = old.dumps;
      found = old.found ∙ same_found p e h s done old.behind within old.passed;
      passed = old.passed;
      rising = old.rising;
      within = omega (arith, grows, within);
      still = still_there p e h s done quiet old.still;
    }

-- ---- one action more

seam : {X : Type 0} (xs : List X) (y : X) (ys : List X) → slice_get (xs ++ y ∷ ys) (length xs) ≡ Some y
seam [] y ys = refl
seam (x ∷ xs) y ys = seam xs y ys

past_end : {X : Type 0} (xs : List X) → slice_get (xs ++ []) (length xs) ≡ None
past_end [] = refl
past_end (x ∷ xs) = past_end xs

-- the next dump of a client is the first ahead of it
next_dump : (p : PlansData) (h : List Event) (s : ℕ) (read : List (ℕ × ℕ × ℕ)) (dumps behind ahead : List (ℕ × ℕ)) → behind ++ ahead ≡ dumps → read ≡ map (dump_read p h s) behind → slice_get dumps (length read) ≡ slice_get (behind ++ ahead) (length behind)
next_dump p h s read dumps behind ahead is found = ap (slice_get dumps) (ap length found ∙ length-map behind (dump_read p h s)) ∙ ap (λ (l : List (ℕ × ℕ)). slice_get l (length behind)) (sym is)

pub read_further : (p : PlansData) (h : List Event) (s done : ℕ) (read new : List (ℕ × ℕ × ℕ)) → done < count p h s → new ≡ read ++ read_with (slice_get (plan_of p s).dumps (length read)) done (result_at p h s) → HasRead p h s done read → HasRead p h s (done + 1) new
read_further p h s done read new below is old = by old.ahead old.dumps old.rising
  where
    -- the dumps ahead stay there
    on : (ahead : List (ℕ × ℕ)) → old.behind ++ ahead ≡ (plan_of p s).dumps → (RiseFrom 0 (plan_of p s).dumps → RiseFrom (done + 1) ahead) → new ≡ read ++ [] → HasRead p h s (done + 1) new
    on ahead dumps rising same = record {
      behind = old.behind;
      ahead = ahead;
      dumps = dumps;
      found = same ∙ append-nil read ∙ old.found;
      passed = All-weaker (λ (d : ℕ × ℕ). d.0 < done) (λ (d : ℕ × ℕ). d.0 < done + 1) (λ d lt. omega arith) old.behind old.passed;
      rising = rising;
      within = omega (arith, below);
      still = λ action place le. old.still action place (omega (arith, le));
    }

    -- the first is passed
    passes : (d : ℕ × ℕ) (ahead : List (ℕ × ℕ)) → old.behind ++ d ∷ ahead ≡ (plan_of p s).dumps → (RiseFrom 0 (plan_of p s).dumps → RiseFrom done (d ∷ ahead)) → d.0 ≡ done → new ≡ read ++ dump_now (result_at p h s) d ∷ [] → HasRead p h s (done + 1) new
    passes d ahead dumps rising here pushed =
        let then : dump_now (result_at p h s) d ≡ dump_read p h s d = ap (λ (v : ℕ). (d.0, d.1, v)) (sym (old.still d.0 d.1 (omega (arith, here)))) in
        record {
          behind = old.behind ++ d ∷ [];
          ahead = ahead;
          dumps = append_assoc old.behind (d ∷ []) ahead ∙ dumps;
          found = pushed ∙ ap (λ (x : ℕ × ℕ × ℕ). read ++ x ∷ []) then ∙ ap (λ (l : List (ℕ × ℕ × ℕ)). l ++ dump_read p h s d ∷ []) old.found ∙ sym (map-append (dump_read p h s) old.behind (d ∷ []));
          passed = All-push (λ (x : ℕ × ℕ). x.0 < done + 1) old.behind d (All-weaker (λ (x : ℕ × ℕ). x.0 < done) (λ (x : ℕ × ℕ). x.0 < done + 1) (λ x lt. omega arith) old.behind old.passed) (omega (arith, here));
          rising = λ r. subst (λ (k : ℕ). RiseFrom (k + 1) ahead) here (rising r).1;
          within = omega (arith, below);
          still = λ action place le. old.still action place (omega (arith, le));
        }

    -- or is not yet
    waits : (d : ℕ × ℕ) (ahead : List (ℕ × ℕ)) → (d.0 ≡ done → ⊥) → RiseFrom done (d ∷ ahead) → RiseFrom (done + 1) (d ∷ ahead)
    waits d ahead off rises = let low = rises.0 in (omega (arith, low, off), rises.1)

    first : (d : ℕ × ℕ) (ahead : List (ℕ × ℕ)) → old.behind ++ d ∷ ahead ≡ (plan_of p s).dumps → (RiseFrom 0 (plan_of p s).dumps → RiseFrom done (d ∷ ahead)) → (b : Bool) → eqb d.0 done ≡ b → new ≡ read ++ cond b (dump_now (result_at p h s) d ∷ []) [] → HasRead p h s (done + 1) new
    first d ahead dumps rising true e pushed = passes d ahead dumps rising (grind (arith, nat_tests)) pushed
    first d ahead dumps rising false e same = on (d ∷ ahead) dumps (λ r. waits d ahead (λ q. grind (arith, nat_tests)) (rising r)) same

    by : (ahead : List (ℕ × ℕ)) → old.behind ++ ahead ≡ (plan_of p s).dumps → (RiseFrom 0 (plan_of p s).dumps → RiseFrom done ahead) → HasRead p h s (done + 1) new
    by [] dumps rising = on [] dumps (λ r. tt) (is ∙ ap (λ (o : Option (ℕ × ℕ)). read ++ read_with o done (result_at p h s)) (next_dump p h s read (plan_of p s).dumps old.behind [] dumps old.found ∙ past_end old.behind))
    by (d ∷ ahead) dumps rising = first d ahead dumps rising (eqb d.0 done) refl (is ∙ ap (λ (o : Option (ℕ × ℕ)). read ++ read_with o done (result_at p h s)) (next_dump p h s read (plan_of p s).dumps old.behind (d ∷ ahead) dumps old.found ∙ seam old.behind d ahead))

-- ---- the end

all_ahead : (p : PlansData) (h : List Event) (s done k : ℕ) (dumps : List (ℕ × ℕ)) → ((action place : ℕ) → done ≤ action → result_at p (passed_at p h s action) s place ≡ result_at p h s place) → done ≤ k → RiseFrom k dumps → map (dump_now (result_at p h s)) dumps ≡ map (dump_read p h s) dumps
all_ahead p h s done k [] still le rises = refl
all_ahead p h s done k (d ∷ dumps) still le rises =
    let low = rises.0 in
    let one : dump_now (result_at p h s) d ≡ dump_read p h s d = ap (λ (v : ℕ). (d.0, d.1, v)) (sym (still d.0 d.1 (omega (arith, le, low)))) in
    ap (λ (x : ℕ × ℕ × ℕ). x ∷ map (dump_now (result_at p h s)) dumps) one ∙ ap (λ (l : List (ℕ × ℕ × ℕ)). dump_read p h s d ∷ l) (all_ahead p h s done (d.0 + 1) dumps still (omega (arith, le, low)) rises.1)

-- with what stands at the places of the dumps ahead of it, a client has read all its dumps
pub read_all : (p : PlansData) (h : List Event) (s done : ℕ) (read : List (ℕ × ℕ × ℕ)) → RiseFrom 0 (plan_of p s).dumps → HasRead p h s done read → read ++ read_left (plan_of p s).dumps read (result_at p h s) ≡ map (dump_read p h s) (plan_of p s).dumps
read_all p h s done read rises old =
    let dumps = (plan_of p s).dumps in
    let left : drop (length read) dumps ≡ old.ahead = ap (λ (k : ℕ). drop k dumps) (ap length old.found ∙ length-map old.behind (dump_read p h s)) ∙ ap (drop (length old.behind)) (sym old.dumps) ∙ drop_at old.behind old.ahead (length old.behind) refl in
    ap (λ (l : List (ℕ × ℕ)). read ++ map (dump_now (result_at p h s)) l) left
    ∙ ap (λ (l : List (ℕ × ℕ × ℕ)). read ++ l) (all_ahead p h s done done old.ahead old.still (omega arith) (old.rising rises))
    ∙ ap (λ (l : List (ℕ × ℕ × ℕ)). l ++ map (dump_read p h s) old.ahead) old.found
    ∙ sym (map-append (dump_read p h s) old.behind old.ahead)
    ∙ ap (map (dump_read p h s)) old.dumps

-- ---- before any event

pub nothing_read : (p : PlansData) (s : ℕ) → HasRead p [] s 0 []
nothing_read p s = record { behind = []; ahead = (plan_of p s).dumps; dumps = refl; found = refl; passed = All-nil (λ (dump : ℕ × ℕ). dump.0 < 0); rising = λ r. r; within = omega arith; still = λ action place le. refl }
