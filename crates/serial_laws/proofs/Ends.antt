-- No event follows exactly where a history is complete, and an unfinished history can go on.
use Rattle.std.proofs.Common.{◌≡◌, ℕ, zero, suc, ◌≤◌, ◌<◌, inl, inr, Bool, true, false, not, ◌&&◌, ◌||◌, nat_le, cond, Option, Some, None, List, [], ◌∷◌, length, take, refl, sym, ap, subst, ◌∙◌, arith, IsSome}
use Rattle.std.proofs.lemmas.Bool.{or_left, le-leb, le-ltb, not-false, ltb-false, and_parts, and_from, both_ways}
use Rattle.std.specs.Prelude.{nat_lt, slice_get, is_some, option_map}
use Rattle.std.specs.List.{list_all, list_any}
use Rattle.gpu_plan.specs.declared.plan.Action.{Action}
use Rattle.gpu_plan.specs.declared.plan.Action.TheVariants as actions
use Rattle.gpu_plan.specs.Plans.{PlansData, plan_of, stays_open, is_closed}
use Rattle.gpu_plan.specs.Passes.{flushes, bound, passes_if_there}
use Rattle.gpu_plan.proofs.Passing.{bound_within, stops_at_bound, passes_below_bound, flushes_all}
use Rattle.sync_core.specs.declared.wait.Number.{Number}
use Rattle.sync_core.specs.Standing.{first_order}
use Rattle.gpu_journal.specs.declared.event.Event.{Event}
use Rattle.gpu_journal.specs.declared.event.Event.TheVariants.{Order, Step, Finish, Lost, Close}
use Rattle.gpu_journal.specs.World.{known}
use Rattle.gpu_journal.specs.Waits.{standing_of, left_of}
use Rattle.gpu_journal.specs.Facts.{place_of, reach}
use Rattle.gpu_journal.specs.Legal.{IsLegal}
use Rattle.gpu_journal.specs.Complete.{IsComplete}
use Rattle.gpu_journal.specs.Serial.{either, first, is_runnable, begins_round, count, stays, has_flush, order_event, is_close, is_at_close, comes_before, choice, runner, run_event, next}
use Rattle.gpu_journal.proofs.Worlds.{known_of_left}
use Rattle.serial_laws.specs.Going.{IsIdle, CanGoOn}
use Rattle.serial_laws.specs.Laws.{EndsWhereComplete, UnfinishedGoesOn}
use Rattle.serial_laws.proofs.First.{first_none, first_passes, first_fails, best_fails}
use Rattle.serial_laws.proofs.Flushes.{flushes_end, flush_there, place_below, within}
use Rattle.serial_laws.proofs.Fitting.{fits, open_of_left}
use Rattle.serial_laws.proofs.Counts.{count_begun}
use Rattle.serial_laws.proofs.Passed.{flush_parts}
use Rattle.serial_laws.proofs.Obeying.{open_fails, may_close, runner_runs}
use Rattle.serial_laws.proofs.Least.{none_left, none_runs}

-- ---- a client that is stopped by no await and by no Close has done all its actions

pub bound_end : (xs : List Action) (f : ℕ) (tokens : List ℕ) → flushes (take (bound xs f tokens) xs) ≤ f → is_close (slice_get xs (bound xs f tokens)) ≡ false → bound xs f tokens ≡ length xs
bound_end xs f tokens few open' = by (slice_get xs (bound xs f tokens)) refl
  where
    before : ℕ
    before = flushes (take (bound xs f tokens) xs)

    stops : (o : Option Action) → slice_get xs (bound xs f tokens) ≡ o → passes_if_there before f tokens o ≡ false
    stops o e = ap (passes_if_there before f tokens) (sym e) ∙ stops_at_bound xs f tokens

    at : (a : Action) → slice_get xs (bound xs f tokens) ≡ Some a → ⊥
    at (actions.Put place value) e = let s = stops (Some (actions.Put place value)) e in cc
    at (actions.Flush put fences) e = let s = stops (Some (actions.Flush put fences)) e in cc
    at actions.Finish e = let s = stops (Some actions.Finish) e in both_ways (nat_le before f) s (le-leb before f few)
    at (actions.Token token) e = let s = stops (Some (actions.Token token)) e in both_ways (nat_le before f || list_any (nat_le token) tokens) s (or_left (nat_le before f) (list_any (nat_le token) tokens) (le-leb before f few))
    at actions.Close e = let c : is_close (slice_get xs (bound xs f tokens)) ≡ true = ap is_close e in both_ways (is_close (slice_get xs (bound xs f tokens))) open' c

    past : (ys : List Action) (k : ℕ) → slice_get ys k ≡ None → length ys ≤ k
    past [] k e = omega arith
    past (y ∷ ys) zero e = absurd (cc)
    past (y ∷ ys) (suc k) e = let r = past ys k e in omega arith

    by : (o : Option Action) → slice_get xs (bound xs f tokens) ≡ o → bound xs f tokens ≡ length xs
    by (Some a) e = absurd (at a e)
    by None e = let a = past xs (bound xs f tokens) e in let b = bound_within xs f tokens in omega arith

-- a Close is among the actions where one of them is a Close
all_stay : (xs : List Action) → ((k : ℕ) → is_close (slice_get xs k) ≡ false) → list_all stays_open xs ≡ true
all_stay [] f = refl
all_stay (x ∷ xs) f = and_from (stays_open x) (list_all stays_open xs) (stays x (f 0)) (all_stay xs (λ k. f (suc k)))
  where
    stays : (a : Action) → is_close (Some a) ≡ false → stays_open a ≡ true
    stays (actions.Put place value) e = refl
    stays (actions.Flush put fences) e = refl
    stays actions.Finish e = refl
    stays (actions.Token token) e = refl
    stays actions.Close e = absurd (cc)

none_closes : (xs : List Action) (k : ℕ) → list_all stays_open xs ≡ true → is_close (slice_get xs k) ≡ false
none_closes [] k e = refl
none_closes (x ∷ xs) zero e = stays x (and_parts (stays_open x) (list_all stays_open xs) e).0
  where
    stays : (a : Action) → stays_open a ≡ true → is_close (Some a) ≡ false
    stays (actions.Put place value) e = refl
    stays (actions.Flush put fences) e = refl
    stays actions.Finish e = refl
    stays (actions.Token token) e = refl
    stays actions.Close e = absurd (cc)
none_closes (x ∷ xs) (suc k) e = none_closes xs k (and_parts (stays_open x) (list_all stays_open xs) e).1

-- what passes is no Close
passes_open : (f g : ℕ) (tokens : List ℕ) (o : Option Action) → passes_if_there f g tokens o ≡ true → is_close o ≡ false
passes_open f g tokens None e = refl
passes_open f g tokens (Some (actions.Put place value)) e = refl
passes_open f g tokens (Some (actions.Flush put fences)) e = refl
passes_open f g tokens (Some actions.Finish) e = refl
passes_open f g tokens (Some (actions.Token token)) e = refl
passes_open f g tokens (Some actions.Close) e = absurd (cc)

never_closes : (xs : List Action) (f : ℕ) (tokens : List ℕ) → bound xs f tokens ≡ length xs → is_closed xs ≡ false
never_closes xs f tokens e = ap not (all_stay xs (λ k. by k (slice_get xs k) refl))
  where
    by : (k : ℕ) (o : Option Action) → slice_get xs k ≡ o → is_close (slice_get xs k) ≡ false
    by k None q = ap is_close q
    by k (Some a) q = let lt = within xs k a q in passes_open (flushes (take k xs)) f tokens (slice_get xs k) (passes_below_bound xs k f tokens (omega (arith, e, lt)))

-- ---- where no number is left, no client has passed a flush that has no order, and none stands at its Close

begun : (p : PlansData) (h : List Event) → IsIdle p h → begins_round p h ≡ true
begun p h idle = ap (λ (o : Option ℕ). not (is_some o)) (first_none (is_runnable p h) (length p.plans) (λ t a b. none_runs p h t (idle t)))

settled_complete : (p : PlansData) (h : List Event) → IsLegal p h → IsIdle p h → first (has_flush p h) (length p.plans) ≡ None → first (is_at_close p h) (length p.plans) ≡ None → IsComplete p h
settled_complete p h legal idle no_flush no_close s o =
    let actions = (plan_of p s).actions in
    let k = known p h s in
    let f = fits p h legal s in
    let at : count p h s ≡ reach p h s = count_begun p h s (begun p h idle) in
    let flush_fails = open_fails (stays p h s) (nat_lt k.ordered (flushes (take (count p h s) actions))) o.stays (first_fails (has_flush p h) (length p.plans) no_flush s o.known.0 o.known.1) in
    let few : flushes (take (reach p h s) actions) ≤ k.ordered = subst (λ n. flushes (take n actions) ≤ k.ordered) at (ltb-false k.ordered (flushes (take (count p h s) actions)) flush_fails) in
    let close_fails = open_fails (stays p h s) (is_close (slice_get actions (count p h s))) o.stays (first_fails (is_at_close p h) (length p.plans) no_close s o.known.0 o.known.1) in
    let shut : is_close (slice_get actions (reach p h s)) ≡ false = subst (λ n. is_close (slice_get actions n) ≡ false) at close_fails in
    let nothing : length (left_of p h s) ≡ 0 = ap length (idle s) in
    let all = f.its_left o.stays in
    let finished : k.finished ≡ k.ordered = omega (arith, nothing, all) in
    let b = bound_end actions k.finished k.tokens (omega (arith, few, finished)) shut in
    let end = flushes_end actions (reach p h s) (omega (arith, b)) in
    let most = f.few in
    record { stays_open = never_closes actions k.finished k.tokens b; ordered = omega (arith, few, end, most); finished = omega (arith, few, end, most, finished) }

-- ---- where no event follows

record NoneFollows (p : PlansData) (h : List Event) : Type 0 where
  flush : first (has_flush p h) (length p.plans) ≡ None
  at_close : first (is_at_close p h) (length p.plans) ≡ None
  run : runner p h ≡ None

none_follows : (p : PlansData) (h : List Event) → next p h ≡ None → NoneFollows p h
unfolding next
none_follows p h n = by (first (has_flush p h) (length p.plans)) refl (first (is_at_close p h) (length p.plans)) refl (runner p h) refl n
  where
    by : (a : Option ℕ) → first (has_flush p h) (length p.plans) ≡ a → (b : Option ℕ) → first (is_at_close p h) (length p.plans) ≡ b → (c : Option ℕ) → runner p h ≡ c
        → either (option_map (order_event p h) a) (either (option_map Close b) (option_map (run_event p h) c)) ≡ None → NoneFollows p h
    by (Some s) x b y c z n = absurd (cc)
    by None x (Some s) y c z n = absurd (cc)
    by None x None y (Some s) z n = absurd (cc)
    by None x None y None z n = record { flush = x; at_close = y; run = z }

none_chosen : (p : PlansData) (h : List Event) → runner p h ≡ None → choice p h ≡ None
none_chosen p [] e = e
none_chosen p (Order s n c ∷ h) e = e
none_chosen p (Step s words ∷ h) e = by (is_runnable p (Step s words ∷ h) s) e
  where
    by : (b : Bool) → cond b (Some s) (choice p (Step s words ∷ h)) ≡ None → choice p (Step s words ∷ h) ≡ None
    by true q = absurd (cc)
    by false q = q
none_chosen p (Finish s n ∷ h) e = e
none_chosen p (Lost s why words ∷ h) e = e
none_chosen p (Close s ∷ h) e = e

ended_complete : (p : PlansData) (h : List Event) → IsLegal p h → next p h ≡ None → IsComplete p h
ended_complete p h legal n =
    let q = none_follows p h n in
    let idle : IsIdle p h = none_left p h legal (best_fails (is_runnable p h) (comes_before p h) (length p.plans) (none_chosen p h q.run)) in
    settled_complete p h legal idle q.flush q.at_close

-- ---- where the history is complete

pub complete_idle : (p : PlansData) (h : List Event) → IsLegal p h → IsComplete p h → IsIdle p h
complete_idle p h legal done t = by (left_of p h t) refl
  where
    by : (xs : List Number) → left_of p h t ≡ xs → xs ≡ []
    by [] e = refl
    by (x ∷ xs) e =
        let some : IsSome (first_order (left_of p h t)) = subst (λ (l : List Number). IsSome (first_order l)) (sym e) refl in
        let f = fits p h legal t in
        let o = open_of_left (plan_of p t).actions (place_of h) (known p h t) (standing_of p h t) f some in
        let d = done t record { known = known_of_left p h t legal some; stays = o.0 } in
        let all = f.its_left o.0 in
        let a = d.ordered in
        let b = d.finished in
        let c = o.1 in
        absurd (omega (arith, all, a, b, c))

follows_none : (p : PlansData) (h : List Event) → first (has_flush p h) (length p.plans) ≡ None → first (is_at_close p h) (length p.plans) ≡ None → runner p h ≡ None → next p h ≡ None
unfolding next
follows_none p h a b c = λ i. either (option_map (order_event p h) (a i)) (either (option_map Close (b i)) (option_map (run_event p h) (c i)))

complete_ended : (p : PlansData) (h : List Event) → IsLegal p h → IsComplete p h → next p h ≡ None
complete_ended p h legal done = follows_none p h (first_none (has_flush p h) (length p.plans) no_flush) (first_none (is_at_close p h) (length p.plans) no_close) (none_runner (runner p h) refl)
  where
    shut : (a b : Bool) → (a ≡ true → b ≡ false) → (a && b) ≡ false
    shut true b f = f refl
    shut false b f = refl

    no_flush : (t : ℕ) → 0 < t → t ≤ length p.plans → has_flush p h t ≡ false
    no_flush t a b = shut (stays p h t) (nat_lt (known p h t).ordered (flushes (take (count p h t) (plan_of p t).actions))) (λ o.
        let d = done t record { known = (a, b); stays = o } in
        let all = flushes_all (plan_of p t).actions (count p h t) in
        let e = d.ordered in
        le-ltb (known p h t).ordered (flushes (take (count p h t) (plan_of p t).actions)) (omega (arith, all, e)))

    no_close : (t : ℕ) → 0 < t → t ≤ length p.plans → is_at_close p h t ≡ false
    no_close t a b = shut (stays p h t) (is_close (slice_get (plan_of p t).actions (count p h t))) (λ o.
        let d = done t record { known = (a, b); stays = o } in
        none_closes (plan_of p t).actions (count p h t) (not-false (list_all stays_open (plan_of p t).actions) d.stays_open))

    none_runner : (o : Option ℕ) → runner p h ≡ o → runner p h ≡ None
    none_runner None e = e
    none_runner (Some s) e = absurd (both_ways (is_runnable p h s) (none_runs p h s (complete_idle p h legal done s)) (runner_runs p h s e))

pub ends_where_complete : EndsWhereComplete
ends_where_complete p h legal = (ended_complete p h legal, complete_ended p h legal)

-- ---- an unfinished history

pub unfinished_goes_on : UnfinishedGoesOn
unfinished_goes_on p h lawful legal idle unfinished = by (first (has_flush p h) (length p.plans)) refl (first (is_at_close p h) (length p.plans)) refl
  where
    at : (s : ℕ) → count p h s ≡ reach p h s
    at s = count_begun p h s (begun p h idle)

    by : (a : Option ℕ) → first (has_flush p h) (length p.plans) ≡ a → (b : Option ℕ) → first (is_at_close p h) (length p.plans) ≡ b → CanGoOn p h
    by (Some s) x b y =
        let q = first_passes (has_flush p h) (length p.plans) s x in
        let r = flush_parts p h s q.0 in
        let less = r.1 in
        let few = flushes_all (plan_of p s).actions (count p h s) in
        let c = flush_there (plan_of p s).actions (known p h s).ordered (omega (arith, less, few)) in
        let below = place_below (plan_of p s).actions (known p h s).ordered c.0 (count p h s) c.1 less in
        let same = at s in
        record { stream = s; still_open = record { known = (q.1, q.2); stays = r.0 }; further = inl record { place = c.0; next = c.1; reached = omega (arith, below, same) } }
    by None x (Some s) y =
        let q = first_passes (is_at_close p h) (length p.plans) s y in
        let c = may_close p h s lawful legal (q.1, q.2) (first_fails (has_flush p h) (length p.plans) x s q.1 q.2) q.0 in
        record { stream = s; still_open = c.still_open; further = inr c }
    by None x None y = absurd (unfinished (settled_complete p h legal idle x y))
