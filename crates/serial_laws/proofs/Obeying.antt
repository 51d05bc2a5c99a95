-- The events of the rule for one thread are legal.
use Rattle.std.proofs.Common.{◌+◌, ◌≡◌, ◌≢◌, ℕ, ◌≤◌, ◌<◌, eqb, Bool, true, false, not, ◌&&◌, cond, Option, Some, None, Result, Ok, Err, List, [], ◌∷◌, length, take, refl, sym, ap, subst, ◌∙◌, arith, IsOk, IsSome}
use Rattle.std.proofs.lemmas.Bool.{eqb-true, eqb-false, ltb-false, and_parts, not-true}
use Rattle.std.proofs.lemmas.List.Elements.{All-map}
use Rattle.std.specs.Prelude.{nat_lt, slice_get, unwrap_or, is_some}
use Rattle.std.specs.List.{All}
use Rattle.gpu_cmd.specs.declared.command.Command.{Command}
use Rattle.gpu_cmd.specs.declared.error.CmdError.{CmdError}
use Rattle.gpu_cmd.specs.Copied.{fetched, fetched_places, places_listed, places_read}
use Rattle.gpu_cmd.proofs.Memories.{memory_copied}
use Rattle.gpu_plan.specs.declared.plan.Action.{Action}
use Rattle.gpu_plan.specs.declared.plan.Action.TheVariants as actions
use Rattle.gpu_plan.specs.Plans.{PlansData, plan_of}
use Rattle.gpu_plan.specs.Values.{value_at}
use Rattle.gpu_plan.specs.Passes.{flushes}
use Rattle.gpu_plan.specs.Places.{flush_places}
use Rattle.sync_core.specs.declared.wait.Number.{Number}
use Rattle.sync_core.specs.Standing.{IsKnown, first_order, front_of}
use Rattle.sync_core.specs.Pending.{is_blocked}
use Rattle.gpu_journal.specs.declared.event.Event.{Event}
use Rattle.gpu_journal.specs.declared.event.Event.TheVariants.{Order, Step, Finish, Lost, Close}
use Rattle.gpu_journal.specs.World.{known}
use Rattle.gpu_journal.specs.Waits.{IsOpen, drawn, standing_of, left_of, front, pending_in}
use Rattle.gpu_journal.specs.Facts.{reach, place_of, flush_of, facts_at, verdict_at}
use Rattle.gpu_journal.specs.Legal.{MayHaveBeenPut, MayClose, Obeys, IsLegal}
use Rattle.gpu_journal.specs.Serial.{first, is_runnable, count, stays, has_flush, order_event, is_close, is_at_close, comes_before, choice, runner, judged_event, run_event, IsPlayed}
use Rattle.gpu_journal.proofs.Worlds.{known_of_left}
use Rattle.serial_laws.specs.Scripts.{AreLawfulPlans}
use Rattle.serial_laws.specs.Going.{is_memory_loss}
use Rattle.serial_laws.specs.Laws.{PlayedIsLegal}
use Rattle.serial_laws.proofs.First.{first_passes, first_fails, best_passes}
use Rattle.serial_laws.proofs.Choices.{Kind, orders_it, closes_it, runs_it, kind_of, run_is, judged_wants}
use Rattle.gpu_plan.proofs.Passing.{flushes_all}
use Rattle.serial_laws.proofs.Flushes.{flush_there, place_below, close_is_last, flushes_before_close}
use Rattle.serial_laws.proofs.Fitting.{ArePlaced, fits, open_of_left}
use Rattle.serial_laws.proofs.Counts.{count_reach, close_reach}
use Rattle.serial_laws.proofs.Passed.{lawful_of, flush_parts, has_passed}

-- ---- orders

there : (o : Option ℕ) (c : ℕ) → o ≡ Some c → o ≡ Some (unwrap_or o 0)
there None c e = absurd (cc)
there (Some d) c e = refl

-- the order of the next flush of an open stream
pub order_obeys : (p : PlansData) (h : List Event) (s c : ℕ) → IsOpen p h s → slice_get (flush_places (plan_of p s).actions) (known p h s).ordered ≡ Some c → Obeys p h (Order s (drawn p h + 1) c)
order_obeys p h s c open' next = record {
  rule_1 = open';
  rule_2 = refl;
  rule_3 = next;
  rule_4 = tt;
  rule_5 = tt;
  rule_6 = tt;
  rule_7 = tt;
  rule_8 = tt;
  rule_9 = tt;
  rule_10 = tt;
  rule_11 = tt;
  rule_12 = tt;
}

obeys_order : (p : PlansData) (h : List Event) (s : ℕ) → first (has_flush p h) (length p.plans) ≡ Some s → Obeys p h (order_event p h s)
obeys_order p h s f =
    let q = first_passes (has_flush p h) (length p.plans) s f in
    let r = flush_parts p h s q.0 in
    let few = flushes_all (plan_of p s).actions (count p h s) in
    let less = r.1 in
    let c = flush_there (plan_of p s).actions (known p h s).ordered (omega arith) in
    order_obeys p h s (unwrap_or (slice_get (flush_places (plan_of p s).actions) (known p h s).ordered) 0) record { known = (q.1, q.2); stays = r.0 } (there (slice_get (flush_places (plan_of p s).actions) (known p h s).ordered) c.0 c.1)

-- ---- closes

pub close_of : (o : Option Action) → is_close o ≡ true → o ≡ Some actions.Close
close_of None e = absurd (cc)
close_of (Some actions.Close) e = refl
close_of (Some (actions.Put place value)) e = absurd (cc)
close_of (Some (actions.Flush put fences)) e = absurd (cc)
close_of (Some actions.Finish) e = absurd (cc)
close_of (Some (actions.Token token)) e = absurd (cc)

-- an open stream whose test fails
pub open_fails : (a b : Bool) → a ≡ true → (a && b) ≡ false → b ≡ false
open_fails true b x y = y
open_fails false b x y = absurd (cc)

pub may_close : (p : PlansData) (h : List Event) (s : ℕ) → AreLawfulPlans p → IsLegal p h → IsKnown (length p.plans) s → has_flush p h s ≡ false → is_at_close p h s ≡ true → MayClose p h s
may_close p h s lawful legal isknown none at =
    let r = and_parts (stays p h s) (is_close (slice_get (plan_of p s).actions (count p h s))) at in
    let e = close_of (slice_get (plan_of p s).actions (count p h s)) r.1 in
    let is = close_reach p h s e in
    let last = close_is_last (plan_of p s).actions (count p h s) (lawful_of p s lawful isknown).closes_last e in
    let all = flushes_before_close (plan_of p s).actions (count p h s) e last in
    let most = (fits p h legal s).few in
    let least = ltb-false (known p h s).ordered (flushes (take (count p h s) (plan_of p s).actions)) (open_fails (stays p h s) (nat_lt (known p h s).ordered (flushes (take (count p h s) (plan_of p s).actions))) r.0 none) in
    record {
      still_open = record { known = isknown; stays = r.0 };
      ordered = omega (arith, all, most, least);
      reached = ap (slice_get (plan_of p s).actions) (sym is) ∙ e;
    }

pub close_obeys : (p : PlansData) (h : List Event) (s : ℕ) → MayClose p h s → Obeys p h (Close s)
close_obeys p h s may = record {
  rule_1 = tt;
  rule_2 = tt;
  rule_3 = tt;
  rule_4 = tt;
  rule_5 = tt;
  rule_6 = tt;
  rule_7 = tt;
  rule_8 = tt;
  rule_9 = tt;
  rule_10 = tt;
  rule_11 = tt;
  rule_12 = may;
}

obeys_close : (p : PlansData) (h : List Event) (s : ℕ) → AreLawfulPlans p → IsLegal p h → first (has_flush p h) (length p.plans) ≡ None → first (is_at_close p h) (length p.plans) ≡ Some s → Obeys p h (Close s)
obeys_close p h s lawful legal none f =
    let q = first_passes (is_at_close p h) (length p.plans) s f in
    close_obeys p h s (may_close p h s lawful legal (q.1, q.2) (first_fails (has_flush p h) (length p.plans) none s q.1 q.2) q.0)

-- ---- runs

-- a stream that can run has an unprocessed number, and no wait of it is pending
pub record CanRun (p : PlansData) (h : List Event) (s : ℕ) : Type 0 where
  pub isknown : IsKnown (length p.plans) s
  pub some : IsSome (first_order (left_of p h s))
  pub free : is_blocked s (left_of p h s) (pending_in p h) ≡ false

pub can_run : (p : PlansData) (h : List Event) (s : ℕ) → IsLegal p h → is_runnable p h s ≡ true → CanRun p h s
can_run p h s legal e =
    let q = and_parts (is_some (first_order (left_of p h s))) (not (is_blocked s (left_of p h s) (pending_in p h))) e in
    record { isknown = known_of_left p h s legal q.0; some = q.0; free = not-true (is_blocked s (left_of p h s) (pending_in p h)) q.1 }

-- the stream that runs can run
pub runner_runs : (p : PlansData) (h : List Event) (s : ℕ) → runner p h ≡ Some s → is_runnable p h s ≡ true
runner_runs p h s r = by h r
  where
    chosen : (h : List Event) → choice p h ≡ Some s → is_runnable p h s ≡ true
    chosen h e = (best_passes (is_runnable p h) (comes_before p h) (length p.plans) s e).0

    going : (t : ℕ) (words : List (ℕ × ℕ)) (h : List Event) (b : Bool) → is_runnable p (Step t words ∷ h) t ≡ b → cond b (Some t) (choice p (Step t words ∷ h)) ≡ Some s → is_runnable p (Step t words ∷ h) s ≡ true
    going t words h true q e = let is : t ≡ s = cc in ap (is_runnable p (Step t words ∷ h)) (sym is) ∙ q
    going t words h false q e = chosen (Step t words ∷ h) e

    by : (h : List Event) → runner p h ≡ Some s → is_runnable p h s ≡ true
    by [] e = chosen [] e
    by (Order t n c ∷ h) e = chosen (Order t n c ∷ h) e
    by (Step t words ∷ h) e = going t words h (is_runnable p (Step t words ∷ h) t) refl e
    by (Finish t n ∷ h) e = chosen (Finish t n ∷ h) e
    by (Lost t why words ∷ h) e = chosen (Lost t why words ∷ h) e
    by (Close t ∷ h) e = chosen (Close t ∷ h) e

front_is : (xs : List Number) → IsSome (first_order xs) → first_order xs ≡ Some (front_of xs)
front_is [] e = absurd (cc)
front_is (x ∷ xs) e = refl

-- the place of the first of some numbers
pub first_placed : (place : ℕ → ℕ) (places : List ℕ) (k : ℕ) (xs : List Number) → ArePlaced place places k xs → 0 < length xs → slice_get places k ≡ Some (place (front_of xs))
first_placed place places k [] a h = absurd (omega arith)
first_placed place places k (x ∷ xs) a h = a.0

-- the client of a stream that can run has passed the flush of its first number
flush_below : (p : PlansData) (h : List Event) (s : ℕ) → IsLegal p h → IsPlayed p h → CanRun p h s → flush_of p h s < count p h s
flush_below p h s legal played can =
    let f = fits p h legal s in
    let o = open_of_left (plan_of p s).actions (place_of h) (known p h s) (standing_of p h s) f can.some in
    let some_left = o.1 in
    let all = f.its_left o.0 in
    let ordered = has_passed p h s played in
    place_below (plan_of p s).actions (known p h s).finished (flush_of p h s) (count p h s)
    (first_placed (place_of h) (flush_places (plan_of p s).actions) (known p h s).finished (left_of p h s) f.placed some_left) (omega (arith, some_left, all, ordered))

-- the words of the next command as the client has put them after k actions
abbrev pub words_after : PlansData → List Event → ℕ → ℕ → List (ℕ × ℕ)
words_after p h s k = fetched (value_at (plan_of p s).actions k) (facts_at p h s)

words_put : (p : PlansData) (h : List Event) (s k : ℕ) → flush_of p h s ≤ k → k ≤ reach p h s → All (MayHaveBeenPut p h s) (words_after p h s k)
unfolding fetched
words_put p h s k since until =
    let memory = value_at (plan_of p s).actions k in
    All-map (MayHaveBeenPut p h s) (λ place. (place, memory place)) (places_read memory (facts_at p h s))
    (λ i d lt. record { done = k; since = since; until = until; held = refl })

obeys_finish : (p : PlansData) (h : List Event) (s : ℕ) → CanRun p h s → flush_of p h s ≤ reach p h s → (facts_at p h s).get ≡ (facts_at p h s).put → Obeys p h (Finish s (front p h s))
obeys_finish p h s can reached same = record {
  rule_1 = tt;
  rule_2 = tt;
  rule_3 = tt;
  rule_4 = front_is (left_of p h s) can.some;
  rule_5 = can.free;
  rule_6 = reached;
  rule_7 = tt;
  rule_8 = tt;
  rule_9 = tt;
  rule_10 = same;
  rule_11 = tt;
  rule_12 = tt;
}

-- words that were fetched from their places and that may have been put, with what their verdict makes of them
pub words_obey : (p : PlansData) (h : List Event) (s : ℕ) (words : List (ℕ × ℕ)) → CanRun p h s → flush_of p h s ≤ reach p h s → (facts_at p h s).get ≢ (facts_at p h s).put → places_listed words ≡ fetched_places words (facts_at p h s) → All (MayHaveBeenPut p h s) words
    → (answer : Result Command CmdError) → verdict_at p h s words ≡ answer → Obeys p h (judged_event s words answer)
words_obey p h s words can reached differ places put (Ok command) e = record {
  rule_1 = tt;
  rule_2 = tt;
  rule_3 = tt;
  rule_4 = can.some;
  rule_5 = can.free;
  rule_6 = reached;
  rule_7 = (differ, places);
  rule_8 = put;
  rule_9 = subst IsOk (sym e) refl;
  rule_10 = tt;
  rule_11 = tt;
  rule_12 = tt;
}
words_obey p h s words can reached differ places put (Err error) e = record {
  rule_1 = tt;
  rule_2 = tt;
  rule_3 = tt;
  rule_4 = can.some;
  rule_5 = can.free;
  rule_6 = reached;
  rule_7 = (differ, places);
  rule_8 = put;
  rule_9 = e;
  rule_10 = tt;
  rule_11 = tt;
  rule_12 = tt;
}

obeys_judged : (p : PlansData) (h : List Event) (s k : ℕ) → CanRun p h s → flush_of p h s ≤ k → k ≤ reach p h s → (facts_at p h s).get ≢ (facts_at p h s).put → (answer : Result Command CmdError) → verdict_at p h s (words_after p h s k) ≡ answer → Obeys p h (judged_event s (words_after p h s k) answer)
obeys_judged p h s k can since until differ answer e =
    words_obey p h s (words_after p h s k) can (omega (arith, since, until)) differ (memory_copied (value_at (plan_of p s).actions k) (facts_at p h s)).places (words_put p h s k since until) answer e

obeys_run : (p : PlansData) (h : List Event) (s : ℕ) → IsLegal p h → IsPlayed p h → CanRun p h s → Obeys p h (run_event p h s)
obeys_run p h s legal played can =
    let below = flush_below p h s legal played can in
    let most = count_reach p h s in
    run_is p h s (Obeys p h) (λ e. obeys_finish p h s can (omega (arith, below, most)) (eqb-true (facts_at p h s).get (facts_at p h s).put e))
    (λ e answer q. obeys_judged p h s (count p h s) can (omega (arith, below)) most (eqb-false (facts_at p h s).get (facts_at p h s).put e) answer q)

-- a stream that can run, and whose client can have come to its flush, has a legal event, which is no loss as out of memory
pub runs_on : (p : PlansData) (h : List Event) (s : ℕ) → CanRun p h s → flush_of p h s ≤ reach p h s → (e : Event) × (is_memory_loss e ≡ false) × Obeys p h e
runs_on p h s can reached = by (eqb (facts_at p h s).get (facts_at p h s).put) refl
  where
    by : (b : Bool) → eqb (facts_at p h s).get (facts_at p h s).put ≡ b → (e : Event) × (is_memory_loss e ≡ false) × Obeys p h e
    by true e = (Finish s (front p h s), refl, obeys_finish p h s can reached (eqb-true (facts_at p h s).get (facts_at p h s).put e))
    by false e =
        let words = words_after p h s (reach p h s) in
        (judged_event s words (verdict_at p h s words), judged_wants s words (verdict_at p h s words), obeys_judged p h s (reach p h s) can reached (omega arith) (eqb-false (facts_at p h s).get (facts_at p h s).put e) (verdict_at p h s words) refl)

obeys_kind : (p : PlansData) (h : List Event) (e : Event) → AreLawfulPlans p → IsLegal p h → IsPlayed p h → Kind p h e → Obeys p h e
obeys_kind p h e lawful legal played (orders_it s f q) = subst (Obeys p h) (sym q) (obeys_order p h s f)
obeys_kind p h e lawful legal played (closes_it s n f q) = subst (Obeys p h) (sym q) (obeys_close p h s lawful legal n f)
obeys_kind p h e lawful legal played (runs_it s f q) = subst (Obeys p h) (sym q) (obeys_run p h s legal played (can_run p h s legal (runner_runs p h s f)))

pub played_is_legal : PlayedIsLegal
played_is_legal p [] lawful y = tt
played_is_legal p (e ∷ h) lawful y = let legal = played_is_legal p h lawful y.1 in (obeys_kind p h e lawful legal y.1 (kind_of p h e y.0), legal)
