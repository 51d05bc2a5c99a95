-- The record tells what the rules ask of a history.
use Rattle.std.proofs.Common.{◌≡◌, ℕ, zero, suc, ◌≤◌, ◌<◌, Bool, true, false, Option, Some, None, List, [], ◌∷◌, length, get_or, refl, sym, ap, subst, ◌∙◌, arith, IsSome}
use Rattle.std.specs.Prelude.{slice_get, slice_index}
use Rattle.std.specs.Bool.{Decides}
use Rattle.std.specs.Option.{option_map_or}
use Rattle.std.specs.List.{All, list_all}
use Rattle.std.proofs.lemmas.Bool.{and_parts, and_from}
use Rattle.std.proofs.lemmas.List.Elements.{All-nil, All-cons, All-head, All-tail}
use Rattle.std.proofs.lemmas.Option.{slice_get-get_or, get_or_from_slice_get}
use Rattle.gpu_plan.specs.declared.plan.Action.{Action}
use Rattle.gpu_plan.specs.Plans.{PlansData, plan_of}
use Rattle.gpu_plan.specs.Passes.{bound}
use Rattle.gpu_plan.specs.Places.{flush_places}
use Rattle.gpu_plan.specs.MayHold.{MayHold}
use Rattle.gpu_plan.proofs.Passing.{bound_by_greatest}
use Rattle.journal_verify.specs.Client.{may_have}
use Rattle.journal_verify.proofs.Holding.{may_have_decides}
use Rattle.stream_state.specs.State.{facts_of}
use Rattle.sync_core.specs.declared.wait.Number.{Number}
use Rattle.sync_core.specs.Standing.{Standing, IsKnown, first_order}
use Rattle.sync_core.specs.Pending.{pending, is_blocked}
use Rattle.sync_core.specs.Core as core
use Rattle.gpu_journal.specs.declared.event.Event.{Event}
use Rattle.gpu_journal.specs.World.{known}
use Rattle.gpu_journal.specs.Waits.{IsOpen, sync_of, left_of, pending_in}
use Rattle.gpu_journal.specs.Facts.{place_of, flush_of, put_in, facts_at, reach}
use Rattle.gpu_journal.specs.Legal.{IsLegal, MayHaveBeenPut}
use Rattle.serial_laws.proofs.Fitting.{fits}
use Rattle.serial_laws.proofs.Obeying.{first_placed}
use Rattle.journal_verify.specs.Kept.{WatchData, JudgeData, watch_of, IsWatch}
use Rattle.journal_verify.specs.Faults.{is_open_in, flush_in, kept_facts, are_held}
use Rattle.journal_verify.specs.Entered.{FitsPlans}
use Rattle.journal_verify.specs.Follows.{IsGreatest, IsWatchOf, Follows}
use Rattle.journal_verify.proofs.Turning.{no_watch, known_of_watch}

-- ---- the watch of a stream

pub told : (p : PlansData) (h : List Event) (j : JudgeData) (s : ℕ) (w : WatchData) → Follows p h j → watch_of j s ≡ Some w → IsWatchOf p h s w
told p h j zero w f e = absurd (cc)
told p h j (suc k) w f e = f.tells k w e

pub watched : (p : PlansData) (h : List Event) (j : JudgeData) (s : ℕ) (w : WatchData) → Follows p h j → watch_of j s ≡ Some w → IsWatch (plan_of p s) w
watched p h j zero w f e = absurd (cc)
watched p h j (suc k) w f e = f.fits.watched k w e

-- each stream of the script has one
pub watch_of_known : (p : PlansData) (j : JudgeData) (s : ℕ) → FitsPlans p j → IsKnown (length p.plans) s → (w : WatchData) × (watch_of j s ≡ Some w)
watch_of_known p j zero f known = absurd (omega (arith, known.0))
watch_of_known p j (suc k) f known = (get_or j.watches k no_watch, slice_get-get_or j.watches k no_watch (omega (arith, known.1, f.watches)))

-- ---- open streams

pub open_decides : (p : PlansData) (h : List Event) (j : JudgeData) (s : ℕ) → Follows p h j → Decides (is_open_in j s) (IsOpen p h s)
open_decides p h j s f = (open_of (watch_of j s) refl, test_of)
  where
    open_of : (o : Option WatchData) → watch_of j s ≡ o → option_map_or (λ (w : WatchData). w.stays) o false ≡ true → IsOpen p h s
    open_of None e t = absurd (cc)
    open_of (Some w) e t = record { known = known_of_watch p j s w f.fits e; stays = sym (told p h j s w f e).stays ∙ t }

    test_of : IsOpen p h s → is_open_in j s ≡ true
    test_of o =
        let w = watch_of_known p j s f.fits o.known in
        ap (λ (o : Option WatchData). option_map_or (λ (w : WatchData). w.stays) o false) w.1 ∙ (told p h j s w.0 f w.1).stays ∙ o.stays

-- ---- numbers and waits

pub left_is : (p : PlansData) (h : List Event) (j : JudgeData) (s : ℕ) → Follows p h j → core.unprocessed_of j.core s ≡ left_of p h s
left_is p h j s f = ap (λ (x : Standing). x.left) (f.sync.streams s)

pub blocked_is : (p : PlansData) (h : List Event) (j : JudgeData) (s : ℕ) → Follows p h j → core.blocked j.core s ≡ is_blocked s (left_of p h s) (pending_in p h)
blocked_is p h j s f =
    let waits = f.sync.pending ∙ ap (λ n. pending n (sync_of p h)) f.fits.core in
    (λ i. is_blocked s (left_is p h j s f i) (waits i))

some_left : (xs : List Number) → IsSome (first_order xs) → 0 < length xs
some_left [] some = absurd (cc)
some_left (x ∷ xs) some = omega arith

-- ---- the flush at hand, and what is read beside it

pub flush_is : (p : PlansData) (h : List Event) (j : JudgeData) (s : ℕ) (w : WatchData) → IsLegal p h → Follows p h j → watch_of j s ≡ Some w → IsSome (first_order (left_of p h s)) → slice_get w.flushes w.finished ≡ Some (flush_of p h s)
flush_is p h j s w legal f e some =
    let t = told p h j s w f e in
    let placed = (fits p h legal s).placed in
    (λ i. slice_get ((watched p h j s w f e).flushes i) (t.finished i)) ∙ first_placed (place_of h) (flush_places (plan_of p s).actions) (known p h s).finished (left_of p h s) placed (some_left (left_of p h s) some)

pub facts_are : (p : PlansData) (h : List Event) (j : JudgeData) (s : ℕ) (w : WatchData) → IsLegal p h → Follows p h j → watch_of j s ≡ Some w → IsSome (first_order (left_of p h s)) → kept_facts p j s ≡ facts_at p h s
facts_are p h j s w legal f e some =
    let flush : flush_in j s ≡ flush_of p h s = ap (λ (o : Option WatchData). option_map_or (λ (w : WatchData). slice_index w.flushes w.finished) o 0) e ∙ get_or_from_slice_get w.flushes w.finished (flush_of p h s) 0 (flush_is p h j s w legal f e some) in
    (λ i. facts_of (plan_of p s).areas (put_in (slice_get (plan_of p s).actions (flush i))) (f.shows.each s i))

-- ---- how far the client can be, and what it may have

greatest_bound : (actions : List Action) (finished token : ℕ) (tokens : List ℕ) → IsGreatest tokens token → bound actions finished (token ∷ []) ≡ bound actions finished tokens
greatest_bound actions finished token [] is = absurd is
greatest_bound actions finished token (first ∷ tokens) is = ap (λ t. bound actions finished (t ∷ [])) is ∙ sym (bound_by_greatest actions finished first tokens)

pub reach_is : (p : PlansData) (h : List Event) (j : JudgeData) (s : ℕ) (w : WatchData) → Follows p h j → watch_of j s ≡ Some w → w.client.reached.upto ≡ reach p h s
reach_is p h j s w f e =
    let t = told p h j s w f e in
    (watched p h j s w f e).most ∙ ap (λ n. bound (plan_of p s).actions n (w.token ∷ [])) t.finished ∙ greatest_bound (plan_of p s).actions (known p h s).finished w.token (known p h s).tokens t.token

all_decides : (test : ℕ × ℕ → Bool) (P : ℕ × ℕ → Type 0) → ((word : ℕ × ℕ) → Decides (test word) (P word)) → (words : List (ℕ × ℕ)) → Decides (list_all test words) (All P words)
all_decides test P one [] = (λ e. All-nil P, λ all. refl)
all_decides test P one (word ∷ words) =
    let more = all_decides test P one words in (
      λ e. let both = and_parts (test word) (list_all test words) e in All-cons P word words ((one word).0 both.0) (more.0 both.1),
      λ all. and_from (test word) (list_all test words) ((one word).1 (All-head P word words all)) (more.1 (All-tail P word words all)),
    )

pub held_decides : (p : PlansData) (h : List Event) (j : JudgeData) (s : ℕ) (w : WatchData) (words : List (ℕ × ℕ)) → IsLegal p h → Follows p h j → watch_of j s ≡ Some w → IsSome (first_order (left_of p h s)) → flush_of p h s ≤ reach p h s
    → Decides (are_held j s words) (All (MayHaveBeenPut p h s) words)
held_decides p h j s w words legal f e some reached =
    let is = watched p h j s w f e in
    let least : w.client.held.done ≡ flush_of p h s = is.least (flush_of p h s) (flush_is p h j s w legal f e some) in
    let most = reach_is p h j s w f e in
    let within : w.client.held.done ≤ w.client.reached.upto = omega arith in
    let own = all_decides (may_have w.client) (λ word. MayHold (plan_of p s).actions w.client.held.done w.client.reached.upto word.0 word.1) (λ word. may_have_decides (plan_of p s).actions w.client word is.client within) words in
    let here = subst (λ n. Decides (list_all (may_have w.client) words) (All (λ word. MayHold (plan_of p s).actions n w.client.reached.upto word.0 word.1) words)) least own in
    let there = subst (λ n. Decides (list_all (may_have w.client) words) (All (λ word. MayHold (plan_of p s).actions (flush_of p h s) n word.0 word.1) words)) most here in
    subst (λ (o : Option WatchData). Decides (option_map_or (λ (w : WatchData). list_all (may_have w.client) words) o false) (All (MayHaveBeenPut p h s) words)) (sym e) there
