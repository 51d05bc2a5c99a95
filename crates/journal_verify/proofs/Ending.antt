-- The record before any event, and when a history is complete.
use Rattle.std.proofs.Common.{◌≡◌, ℕ, zero, suc, Bool, true, false, not, eqb, ◌&&◌, Option, Some, List, [], length, replicate, refl, sym, ap, subst, ◌∙◌, arith}
use Rattle.std.specs.Prelude.{◌||◌, slice_get}
use Rattle.std.specs.Option.{option_map_or}
use Rattle.std.specs.List.{All}
use Rattle.std.proofs.lemmas.Bool.{and_parts, and_from, not-true}
use Rattle.std.proofs.lemmas.Bool.Decides.{nat_tests}
use Rattle.std.proofs.lemmas.List.{length-replicate}
use Rattle.std.proofs.lemmas.List.Elements.{All-replicate}
use Rattle.gpu_plan.specs.Plans.{PlansData, is_closed, plan_of}
use Rattle.gpu_plan.specs.Passes.{flushes}
use Rattle.stream_state.specs.State.{first_state}
use Rattle.sync_core.specs.Standing.{is_open}
use Rattle.sync_core.specs.Events as sync
use Rattle.sync_core.specs.Core.{StandsFor}
use Rattle.gpu_plan.proofs.Counts.{places_count}
use Rattle.gpu_journal.specs.declared.event.Event.{Event}
use Rattle.gpu_journal.specs.World.{World}
use Rattle.gpu_journal.specs.Waits.{IsOpen, drawn}
use Rattle.gpu_journal.specs.Complete.{IsDone, IsComplete}
use Rattle.gpu_journal.specs.Replaying.{IsWithinQuota}
use Rattle.gpu_journal.proofs.Worlds.{world_none, sync_none}
use Rattle.gpu_journal.proofs.Following.{shows_none}
use Rattle.journal_verify.specs.Kept.{WatchData, JudgeData, watch_of}
use Rattle.journal_verify.specs.Faults.{has_done_all, is_settled, AreAllSettled}
use Rattle.journal_verify.specs.Entered.{CountsAtMost, Counts, counts_of}
use Rattle.journal_verify.specs.Follows.{IsFirst, IsGreatest, IsWatchOf, Follows}
use Rattle.journal_verify.proofs.Following.{told, watched, watch_of_known, open_decides}

-- ---- before any event

first_within : IsWithinQuota first_state
first_within = record { bounded = record { fetched = omega arith; entries = omega arith }; few = omega arith }

first_tells : (p : PlansData) (s : ℕ) (w : WatchData) → counts_of w ≡ record { ordered = 0; finished = 0; token = 0; stays = true } → IsWatchOf p [] s w
first_tells p s w counts = record {
  ordered = ap (λ (k : Counts). k.ordered) counts ∙ ap (λ (w : World). (w.streams s).ordered) (sym (world_none p));
  finished = ap (λ (k : Counts). k.finished) counts ∙ ap (λ (w : World). (w.streams s).finished) (sym (world_none p));
  token = subst (λ (world : World). IsGreatest (world.streams s).tokens w.token) (sym (world_none p)) (ap (λ (k : Counts). k.token) counts);
  stays = ap (λ (k : Counts). k.stays) counts ∙ ap (λ (g : List sync.SyncEvent). is_open (sync.standing g s)) (sym (sync_none p));
}

pub first_follows : (p : PlansData) (j : JudgeData) → j.drawn ≡ 0 → j.core.drawn ≡ 0 → length j.core.streams ≡ length p.plans → StandsFor j.core [] → j.images ≡ [] → j.states ≡ replicate (length p.plans) first_state → length j.watches ≡ length p.plans
    → ((k : ℕ) (w : WatchData) → slice_get j.watches k ≡ Some w → IsFirst (plan_of p (suc k)) w) → Follows p [] j
first_follows p j drawn core count stands images states watches first = record {
  fits = record {
    drawn = core ∙ sym drawn;
    core = count;
    states = ap length states ∙ length-replicate (length p.plans) first_state;
    watches = watches;
    watched = λ k w at. (first k w at).fits;
    within = subst (All IsWithinQuota) (sym states) (All-replicate IsWithinQuota (length p.plans) first_state first_within);
  };
  drawn = drawn ∙ ap sync.orders (sym (sync_none p));
  sync = subst (StandsFor j.core) (sym (sync_none p)) stands;
  shows = shows_none p j.images j.states images states;
  tells = λ k w at. first_tells p (suc k) w (first k w at).counts;
}

pub first_counted : (p : PlansData) (j : JudgeData) → j.drawn ≡ 0 → ((k : ℕ) (w : WatchData) → slice_get j.watches k ≡ Some w → IsFirst (plan_of p (suc k)) w) → CountsAtMost 0 j
first_counted p j drawn first = record {
  drawn = omega arith;
  each = λ k w at. (let none = (first k w at).counts in
      let a = ap (λ (k : Counts). k.ordered) none in
      let b = ap (λ (k : Counts). k.finished) none in
      (omega (arith, a), omega (arith, b)));
}

-- ---- a complete history

done_parts : (p : PlansData) (h : List Event) (j : JudgeData) (s : ℕ) (w : WatchData) → Follows p h j → watch_of j s ≡ Some w → has_done_all (plan_of p s) w ≡ true → IsDone p h s
done_parts p h j s w f at e =
    let both = and_parts (eqb w.ordered (length w.flushes) && eqb w.finished (length w.flushes)) (not (is_closed (plan_of p s).actions)) e in
    let counts = and_parts (eqb w.ordered (length w.flushes)) (eqb w.finished (length w.flushes)) both.0 in
    let all : length w.flushes ≡ flushes (plan_of p s).actions = ap length (watched p h j s w f at).flushes ∙ places_count 0 (plan_of p s).actions in
    let ordered : w.ordered ≡ length w.flushes = let t = counts.0 in grind (arith, nat_tests) in
    let finished : w.finished ≡ length w.flushes = let t = counts.1 in grind (arith, nat_tests) in
    record {
      stays_open = not-true (is_closed (plan_of p s).actions) both.1;
      ordered = sym (told p h j s w f at).ordered ∙ ordered ∙ all;
      finished = sym (told p h j s w f at).finished ∙ finished ∙ all;
    }

done_test : (p : PlansData) (h : List Event) (j : JudgeData) (s : ℕ) (w : WatchData) → Follows p h j → watch_of j s ≡ Some w → IsDone p h s → has_done_all (plan_of p s) w ≡ true
done_test p h j s w f at done =
    let all : length w.flushes ≡ flushes (plan_of p s).actions = ap length (watched p h j s w f at).flushes ∙ places_count 0 (plan_of p s).actions in
    let ordered : w.ordered ≡ length w.flushes = (told p h j s w f at).ordered ∙ done.ordered ∙ sym all in
    let finished : w.finished ≡ length w.flushes = (told p h j s w f at).finished ∙ done.finished ∙ sym all in
    let a : eqb w.ordered (length w.flushes) ≡ true = grind (arith, nat_tests) in
    let b : eqb w.finished (length w.flushes) ≡ true = grind (arith, nat_tests) in
    and_from (eqb w.ordered (length w.flushes) && eqb w.finished (length w.flushes)) (not (is_closed (plan_of p s).actions)) (and_from (eqb w.ordered (length w.flushes)) (eqb w.finished (length w.flushes)) a b) (ap not done.stays_open)

or_right : (a b : Bool) → (not a || b) ≡ true → a ≡ true → b ≡ true
or_right true b e t = e
or_right false b e t = absurd (cc)

pub settled_complete : (p : PlansData) (h : List Event) (j : JudgeData) → Follows p h j → AreAllSettled p j.watches → IsComplete p h
settled_complete p h j f settled s o = by s o (watch_of_known p j s f.fits o.known)
  where
    by : (s : ℕ) → IsOpen p h s → (w : WatchData) × (watch_of j s ≡ Some w) → IsDone p h s
    by zero o w = absurd (omega (arith, o.known.0))
    by (suc k) o w =
        let stays : w.0.stays ≡ true = (told p h j (suc k) w.0 f w.1).stays ∙ o.stays in
        done_parts p h j (suc k) w.0 f w.1 (or_right w.0.stays (has_done_all (plan_of p (suc k)) w.0) (settled k w.0 w.1) stays)

pub complete_settled : (p : PlansData) (h : List Event) (j : JudgeData) → Follows p h j → IsComplete p h → AreAllSettled p j.watches
complete_settled p h j f complete k w at = by w.stays refl
  where
    by : (b : Bool) → w.stays ≡ b → is_settled (plan_of p (suc k)) w ≡ true
    by false e = ap (λ (b : Bool). not b || has_done_all (plan_of p (suc k)) w) e
    by true e =
        let o = (open_decides p h j (suc k) f).0 (ap (λ (o : Option WatchData). option_map_or (λ (w : WatchData). w.stays) o false) at ∙ e) in
        ap (λ (b : Bool). not b || has_done_all (plan_of p (suc k)) w) e ∙ done_test p h j (suc k) w f at (complete (suc k) o)
