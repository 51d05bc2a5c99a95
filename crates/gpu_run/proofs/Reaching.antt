-- One action of a client, by the rule.
use Rattle.std.proofs.Common.{◌≡◌, ℕ, suc, ◌+◌, ◌-◌, ◌≤◌, ◌<◌, true, false, Option, Some, List, [], ◌∷◌, length, get_or, set, take, sym, ap, subst, ◌∙◌, arith}
use Rattle.std.proofs.lemmas.Bool.{both_ways}
use Rattle.std.proofs.lemmas.List.{set-get_or}
use Rattle.std.specs.Prelude.{slice_get, unwrap_or, option_map}
use Rattle.gpu_plan.specs.Plans.{PlansData, PlanData, plan_of}
use Rattle.gpu_plan.specs.Passes.{flushes, passes, bound, greatest}
use Rattle.gpu_plan.specs.Places.{flush_places, mark_of}
use Rattle.gpu_plan.proofs.Passing.{bound_one_further, passes_below_bound, flushes_all}
use Rattle.gpu_fetch.specs.Plain.{PlainData, one_further, IsFlush, IsNext}
use Rattle.sync_core.specs.Standing.{IsKnown}
use Rattle.gpu_fetch.proofs.Counting.{flush_counts}
use Rattle.gpu_journal.specs.declared.event.Event.{Event}
use Rattle.gpu_journal.specs.World.{known}
use Rattle.gpu_journal.specs.Facts.{reach}
use Rattle.gpu_journal.specs.Serial.{stays}
use Rattle.serial_laws.proofs.Flushes.{flushes_grow, flush_placed}
use Rattle.serial_laws.proofs.Tokens.{reach_is}
use Rattle.gpu_run.specs.Clients.{RunClientData, client_of_stream, done_at, flushes_to}
use Rattle.gpu_run.specs.Rounds.{GoesFurther, StandsStill}
use Rattle.gpu_run.specs.Served.{IsOrderedClient}
use Rattle.gpu_run.proofs.Rows.{client_same, client_other}

-- ---- whether the next action passes

-- how far the client can be, by the numbers that the house tells
reach_by : (p : PlansData) (h : List Event) (s f t : ℕ) (plan : PlanData) → plan_of p s ≡ plan → f ≡ (known p h s).finished → t ≡ greatest (known p h s).tokens → reach p h s ≡ bound plan.actions f (t ∷ [])
reach_by p h s f t plan is is_f is_t =
    reach_is p h s
    ∙ ap (λ (q : PlanData). bound q.actions (known p h s).finished (greatest (known p h s).tokens ∷ [])) is
    ∙ ap (λ (n : ℕ). bound plan.actions n (greatest (known p h s).tokens ∷ [])) (sym is_f)
    ∙ ap (λ (n : ℕ). bound plan.actions f (n ∷ [])) (sym is_t)

-- where it passes, the client is not yet at its bound
pub passes_below : (p : PlansData) (h : List Event) (s f t done : ℕ) (plan : PlanData) → plan_of p s ≡ plan → f ≡ (known p h s).finished → t ≡ greatest (known p h s).tokens → done ≤ reach p h s → passes plan.actions done f (t ∷ []) ≡ true → done < reach p h s
passes_below p h s f t done plan is is_f is_t le passing =
    let far = reach_by p h s f t plan is is_f is_t in
    let more = bound_one_further plan.actions done f (t ∷ []) (omega (arith, far, le)) passing in
    omega (arith, far, more)

-- where it does not, the client is there
pub stops_there : (p : PlansData) (h : List Event) (s f t done : ℕ) (plan : PlanData) → plan_of p s ≡ plan → f ≡ (known p h s).finished → t ≡ greatest (known p h s).tokens → done ≤ reach p h s → passes plan.actions done f (t ∷ []) ≡ false → done ≡ reach p h s
stops_there p h s f t done plan is is_f is_t le stops =
    let far = reach_by p h s f t plan is is_f is_t in
    let not_below : done < reach p h s → ⊥ = λ lt. both_ways (passes plan.actions done f (t ∷ [])) stops (passes_below_bound plan.actions done f (t ∷ []) (omega (arith, far, lt))) in
    omega (arith, le, not_below)

-- the client stands still, with each of its flushes ordered
pub stands_still : (p : PlansData) (h : List Event) (s : ℕ) (clients : List RunClientData) → stays p h s ≡ true → IsOrderedClient p h s (client_of_stream clients s).words → done_at clients s ≡ reach p h s → StandsStill p h (done_at clients) s
stands_still p h s clients o client there = record { there = there; ordered = client.passed o ∙ ap (flushes_to (plan_of p s)) there }

-- ---- the client goes further

pub goes_further : (p : PlansData) (h : List Event) (s : ℕ) (clients : List RunClientData) (now : RunClientData) → IsKnown (length clients) s → now.words ≡ one_further (client_of_stream clients s).words → done_at clients s < reach p h s
    → GoesFurther p h (done_at clients) (done_at (set clients (s - 1) now)) s
goes_further p h s clients now known is below = record {
  further = ap (λ (c : RunClientData). c.words.done) (client_same clients s now known) ∙ ap (λ (w : PlainData). w.done) is;
  others = λ t off. ap (λ (c : RunClientData). c.words.done) (client_other clients s t now known.0 off);
  below = below;
}

-- nothing has changed
pub nothing_done : (clients : List RunClientData) (s : ℕ) (other : RunClientData) → done_at (set clients (s - 1) (get_or clients (s - 1) other)) ≡ done_at clients
nothing_done clients s other = ap done_at (set-get_or clients (s - 1) other)

-- ---- a flush that is next

-- its note is that of the stream's next order
pub note_fits : (p : PlansData) (h : List Event) (s note : ℕ) (words : PlainData) (plan : PlanData) → plan_of p s ≡ plan → stays p h s ≡ true → IsOrderedClient p h s words → IsNext IsFlush plan.actions words.done → note ≡ words.done + 1 → note ≡ mark_of (plan_of p s) (known p h s).ordered
note_fits p h s note words plan is o client next e =
    let at : slice_get (flush_places (plan_of p s).actions) (flushes (take words.done (plan_of p s).actions)) ≡ Some words.done = flush_placed (plan_of p s).actions words.done (flush_counts (plan_of p s).actions words.done (subst (λ (q : PlanData). IsNext IsFlush q.actions words.done) (sym is) next)) in
    let place : slice_get (flush_places (plan_of p s).actions) (known p h s).ordered ≡ Some words.done = ap (slice_get (flush_places (plan_of p s).actions)) (client.passed o) ∙ at in
    e ∙ (omega arith) ∙ sym (ap (λ (q : Option ℕ). unwrap_or (option_map suc q) (length (plan_of p s).actions)) place)

-- and there is such a flush
pub flush_left : (p : PlansData) (h : List Event) (s : ℕ) (words : PlainData) (plan : PlanData) → plan_of p s ≡ plan → stays p h s ≡ true → IsOrderedClient p h s words → IsNext IsFlush plan.actions words.done → (known p h s).ordered < flushes (plan_of p s).actions
flush_left p h s words plan is o client next =
    let here = subst (λ (q : PlanData). IsNext IsFlush q.actions words.done) (sym is) next in
    let more = flush_counts (plan_of p s).actions words.done here in
    let all = flushes_all (plan_of p s).actions (words.done + 1) in
    let ordered = client.passed o in
    omega (arith, more, all, ordered)

-- within the client's reach
pub flush_reached : (p : PlansData) (h : List Event) (s : ℕ) (words : PlainData) (plan : PlanData) → plan_of p s ≡ plan → stays p h s ≡ true → IsOrderedClient p h s words → IsNext IsFlush plan.actions words.done → words.done < reach p h s → (known p h s).ordered < flushes_to (plan_of p s) (reach p h s)
flush_reached p h s words plan is o client next below =
    let here = subst (λ (q : PlanData). IsNext IsFlush q.actions words.done) (sym is) next in
    let more = flush_counts (plan_of p s).actions words.done here in
    let grow = flushes_grow (plan_of p s).actions (words.done + 1) (reach p h s) (omega (arith, below)) in
    let ordered = client.passed o in
    omega (arith, more, grow, ordered)
