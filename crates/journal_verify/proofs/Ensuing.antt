-- The record after an event that obeys its rules is what the longer history says.
use Rattle.std.proofs.Common.{◌≡◌, ◌≢◌, ℕ, zero, suc, ◌+◌, ◌-◌, ◌≤◌, max, inl, inr, false, not, eqb, Option, Some, List, [], ◌∷◌, set, refl, sym, ap, subst, ◌∙◌, arith}
use Rattle.std.proofs.lemmas.Bool.{and_right}
use Rattle.std.specs.Prelude.{slice_get}
use Rattle.std.proofs.lemmas.Bool.Decides.{nat_tests}
use Rattle.gpu_store.specs.Images.{Pictures}
use Rattle.gpu_plan.specs.Plans.{PlansData, plan_of}
use Rattle.stream_state.specs.declared.effect.Effect.{Effect}
use Rattle.stream_state.specs.declared.effect.Effect.TheVariants.{Nothing, Token, Release, Wait, WaitName, Pixels, Results}
use Rattle.stream_state.specs.State.{State}
use Rattle.stream_state.specs.Steps.{effect}
use Rattle.sync_core.specs.Standing.{is_open}
use Rattle.sync_core.specs.Events as sync
use Rattle.sync_core.specs.Core.{StandsFor}
use Rattle.gpu_journal.specs.declared.event.Event.{Event}
use Rattle.gpu_journal.specs.declared.event.Event.TheVariants.{Order, Step, Finish, Lost, Close}
use Rattle.gpu_journal.specs.World.{Known, world, stream_in, asked_by, tokens_after, greatest_after, known, known_after}
use Rattle.gpu_journal.specs.Waits.{deed, deed_asked, sync_of, standing_of, drawn}
use Rattle.gpu_journal.specs.Replaying.{Shows}
use Rattle.gpu_journal.proofs.Worlds.{sync_then}
use Rattle.gpu_journal.proofs.Following.{shows_step, shows_other}
use Rattle.serial_laws.proofs.Others.{moved_by, standing_own, standing_other, known_own, known_other}
use Rattle.serial_laws.proofs.Spent.{asked_open}
use Rattle.journal_verify.specs.Kept.{WatchData, JudgeData, watch_of}
use Rattle.journal_verify.specs.Entered.{FitsPlans, CountsAtMost, Counts, counts_of, HasTurned, effect_in, applied_in, state_after, HasEntered}
use Rattle.journal_verify.specs.Follows.{IsGreatest, IsWatchOf, Follows}
use Rattle.journal_verify.proofs.Turning.{get_put, known_of_watch}
use Rattle.journal_verify.proofs.Following.{told}

-- ---- the watch of the event's stream

-- what the event makes of the facts of its stream
record TellsAfter (p : PlansData) (h : List Event) (e : Event) (watch : WatchData) : Type 0 where
  ordered : watch.ordered ≡ (known_after p e (world p h) (known p h (stream_in e))).ordered
  finished : watch.finished ≡ (known_after p e (world p h) (known p h (stream_in e))).finished
  token : IsGreatest (known_after p e (world p h) (known p h (stream_in e))).tokens watch.token
  stays : watch.stays ≡ is_open (moved_by (deed p e (world p h)) (drawn p h + 1) (standing_of p h (stream_in e)))

own_tells : (p : PlansData) (h : List Event) (e : Event) (watch : WatchData) → TellsAfter p h e watch → IsWatchOf p (e ∷ h) (stream_in e) watch
own_tells p h e watch t = record {
  ordered = t.ordered ∙ ap (λ (k : Known). k.ordered) (sym (known_own p e h));
  finished = t.finished ∙ ap (λ (k : Known). k.finished) (sym (known_own p e h));
  token = subst (λ (k : Known). IsGreatest k.tokens watch.token) (sym (known_own p e h)) t.token;
  stays = t.stays ∙ ap is_open (sym (standing_own p e h));
}

-- that of another stream stays as it is
other_tells : (p : PlansData) (h : List Event) (e : Event) (t : ℕ) (watch : WatchData) → stream_in e ≢ t → IsWatchOf p h t watch → IsWatchOf p (e ∷ h) t watch
other_tells p h e t watch apart tells =
    let test : eqb (stream_in e) t ≡ false = grind (arith, nat_tests) in
    let same = sym (known_other p e h t test) in
    record {
      ordered = tells.ordered ∙ ap (λ (k : Known). k.ordered) same;
      finished = tells.finished ∙ ap (λ (k : Known). k.finished) same;
      token = subst (λ (k : Known). IsGreatest k.tokens watch.token) same tells.token;
      stays = tells.stays ∙ ap is_open (sym (standing_other p e h t test));
    }

tells_turned : (p : PlansData) (h : List Event) (e : Event) (old new : JudgeData) (now : WatchData) → Follows p h old → 1 ≤ stream_in e → new.watches ≡ set old.watches (stream_in e - 1) now → TellsAfter p h e now
    → (k : ℕ) (watch : WatchData) → slice_get new.watches k ≡ Some watch → IsWatchOf p (e ∷ h) (suc k) watch
tells_turned p h e old new now f some put own k watch at =
    elim (get_put old.watches (stream_in e - 1) k watch now (ap (λ (ws : List WatchData). slice_get ws k) (sym put) ∙ at)) [
      | inl here ↦ (
          let same : stream_in e ≡ suc k = omega (arith, here.0) in
          subst (λ (w : WatchData). IsWatchOf p (e ∷ h) (suc k) w) (sym here.1) (subst (λ t. IsWatchOf p (e ∷ h) t now) same (own_tells p h e now own)))
      | inr other ↦ other_tells p h e (suc k) watch (λ q. other.0 (omega arith)) (f.tells k watch other.1)
    ]

-- ---- all that is kept

follows_turned : (p : PlansData) (h : List Event) (e : Event) (move : Counts → Counts) (orders : ℕ) (pictures : Pictures) (left : List State) (old new : JudgeData) → Follows p h old → HasTurned (stream_in e) (deed p e (world p h)) move orders pictures left old new → FitsPlans p new
    → Shows p (e ∷ h) new.images new.states → ((was now : WatchData) → IsWatchOf p h (stream_in e) was → counts_of now ≡ move (counts_of was) → TellsAfter p h e now) → Follows p (e ∷ h) new
follows_turned p h e move orders pictures left old new f turned fits shows moves =
    let sync = subst (StandsFor new.core) (sym (sync_then p e h)) (turned.core (sync_of p h) f.sync) in
    let known = known_of_watch p old (stream_in e) turned.was f.fits turned.here in
    record {
      fits = fits;
      drawn = sym fits.drawn ∙ sync.drawn;
      sync = sync;
      shows = shows;
      tells = tells_turned p h e old new turned.now f (omega (arith, known.0)) turned.put (moves turned.was turned.now (told p h old (stream_in e) turned.was f turned.here) turned.moved);
    }

-- ---- each event

order_after : (p : PlansData) (h : List Event) (s n c : ℕ) (was now : WatchData) → IsWatchOf p h s was → counts_of now ≡ record (counts_of was) { ordered = was.ordered + 1 } → TellsAfter p h (Order s n c) now
order_after p h s n c was now t e = record {
  ordered = ap (λ (k : Counts). k.ordered) e ∙ ap (λ n. n + 1) t.ordered;
  finished = ap (λ (k : Counts). k.finished) e ∙ t.finished;
  token = subst (IsGreatest (known p h s).tokens) (sym (ap (λ (k : Counts). k.token) e)) t.token;
  stays = ap (λ (k : Counts). k.stays) e ∙ t.stays;
}

finish_after : (p : PlansData) (h : List Event) (s n : ℕ) (was now : WatchData) → IsWatchOf p h s was → counts_of now ≡ record (counts_of was) { finished = was.finished + 1 } → TellsAfter p h (Finish s n) now
finish_after p h s n was now t e = record {
  ordered = ap (λ (k : Counts). k.ordered) e ∙ t.ordered;
  finished = ap (λ (k : Counts). k.finished) e ∙ ap (λ n. n + 1) t.finished;
  token = subst (IsGreatest (known p h s).tokens) (sym (ap (λ (k : Counts). k.token) e)) t.token;
  stays = ap (λ (k : Counts). k.stays) e ∙ t.stays;
}

-- a stream that is lost or closed stays no longer
gone_after : (p : PlansData) (h : List Event) (e : Event) (was now : WatchData) → known_after p e (world p h) (known p h (stream_in e)) ≡ known p h (stream_in e) → is_open (moved_by (deed p e (world p h)) (drawn p h + 1) (standing_of p h (stream_in e))) ≡ false
    → IsWatchOf p h (stream_in e) was → counts_of now ≡ record (counts_of was) { stays = false } → TellsAfter p h e now
gone_after p h e was now same gone t moved = record {
  ordered = ap (λ (k : Counts). k.ordered) moved ∙ t.ordered ∙ ap (λ (k : Known). k.ordered) (sym same);
  finished = ap (λ (k : Counts). k.finished) moved ∙ t.finished ∙ ap (λ (k : Known). k.finished) (sym same);
  token = subst (λ (k : Known). IsGreatest k.tokens now.token) (sym same) (subst (IsGreatest (known p h (stream_in e)).tokens) (sym (ap (λ (k : Counts). k.token) moved)) t.token);
  stays = ap (λ (k : Counts). k.stays) moved ∙ sym gone;
}

greatest_then : (token t : ℕ) (tokens : List ℕ) → IsGreatest tokens t → IsGreatest (token ∷ tokens) (max token t)
greatest_then token t [] is = absurd is
greatest_then token t (first ∷ tokens) is = ap (max token) is

token_told : (effect : Effect) (tokens : List ℕ) (t : ℕ) → IsGreatest tokens t → IsGreatest (tokens_after effect tokens) (greatest_after effect t)
token_told (Token token) tokens t is = greatest_then token t tokens is
token_told Nothing tokens t is = is
token_told (Release release) tokens t is = is
token_told (Wait stream release) tokens t is = is
token_told (WaitName name release) tokens t is = is
token_told (Pixels op) tokens t is = is
token_told (Results writes) tokens t is = is

step_after : (p : PlansData) (h : List Event) (s : ℕ) (words : List (ℕ × ℕ)) (was now : WatchData) → IsWatchOf p h s was → counts_of now ≡ record (counts_of was) { token = greatest_after (asked_by p s words (world p h)) was.token } → TellsAfter p h (Step s words) now
step_after p h s words was now t e = record {
  ordered = ap (λ (k : Counts). k.ordered) e ∙ t.ordered;
  finished = ap (λ (k : Counts). k.finished) e ∙ t.finished;
  token = subst (IsGreatest (tokens_after (asked_by p s words (world p h)) (known p h s).tokens)) (sym (ap (λ (k : Counts). k.token) e)) (token_told (asked_by p s words (world p h)) (known p h s).tokens was.token t.token);
  stays = ap (λ (k : Counts). k.stays) e ∙ t.stays ∙ sym (asked_open p (asked_by p s words (world p h)) (drawn p h + 1) (standing_of p h s));
}

pub follows_entered : (p : PlansData) (h : List Event) (e : Event) (old new : JudgeData) → Follows p h old → HasEntered p e old new → FitsPlans p new → Follows p (e ∷ h) new
follows_entered p h (Order s n c) old new f turned fits =
    follows_turned p h (Order s n c) _ _ _ _ old new f turned fits
    (shows_other p h (Order s n c) old.images new.images old.states new.states (λ is. is) f.shows turned.images turned.states) (order_after p h s n c)
follows_entered p h (Finish s n) old new f turned fits =
    follows_turned p h (Finish s n) _ _ _ _ old new f turned fits
    (shows_other p h (Finish s n) old.images new.images old.states new.states (λ is. is) f.shows turned.images turned.states) (finish_after p h s n)
follows_entered p h (Lost s why words) old new f turned fits =
    follows_turned p h (Lost s why words) _ _ _ _ old new f turned fits
    (shows_other p h (Lost s why words) old.images new.images old.states new.states (λ is. is) f.shows turned.images turned.states) (λ was now. gone_after p h (Lost s why words) was now refl refl)
follows_entered p h (Close s) old new f turned fits =
    follows_turned p h (Close s) _ _ _ _ old new f turned fits
    (shows_other p h (Close s) old.images new.images old.states new.states (λ is. is) f.shows turned.images turned.states) (λ was now. gone_after p h (Close s) was now refl (and_right (not (standing_of p h s).lost) false refl))
follows_entered p h (Step s words) old new f turned fits =
    let told' : effect_in p old s words ≡ asked_by p s words (world p h) = ap (effect (plan_of p s).areas words) (f.shows.each s) in
    let known = known_of_watch p old s turned.was f.fits turned.here in
    let own = subst (λ (x : Effect). HasTurned s (deed_asked p x) (λ k. record k { token = greatest_after x k.token }) old.drawn (applied_in p old s words).images (set old.states (s - 1) (state_after p old s words)) old new) told' turned in
    follows_turned p h (Step s words) _ _ _ _ old new f own fits
    (shows_step p h s words old.images new.images old.states new.states (state_after p old s words) known f.shows turned.images refl turned.states) (step_after p h s words)

-- ---- the counts

counted_put : (most : ℕ) (old new : JudgeData) (s : ℕ) (now : WatchData) → CountsAtMost most old → new.drawn ≤ most + 1 → new.watches ≡ set old.watches (s - 1) now → now.ordered ≤ most + 1 → now.finished ≤ most + 1 → CountsAtMost (most + 1) new
counted_put most old new s now few drawn put ordered finished = record {
  drawn = drawn;
  each = λ k watch at. elim (get_put old.watches (s - 1) k watch now (ap (λ (ws : List WatchData). slice_get ws k) (sym put) ∙ at)) [
    | inl here ↦ (subst (λ (w : WatchData). w.ordered ≤ most + 1) (sym here.1) ordered, subst (λ (w : WatchData). w.finished ≤ most + 1) (sym here.1) finished)
    | inr other ↦ (let both = few.each k watch other.1 in (omega (arith, both.0), omega (arith, both.1)))
  ];
}

watch_counted : (most : ℕ) (j : JudgeData) (s : ℕ) (w : WatchData) → CountsAtMost most j → watch_of j s ≡ Some w → (w.ordered ≤ most) × (w.finished ≤ most)
watch_counted most j zero w few at = absurd (cc)
watch_counted most j (suc k) w few at = few.each k w at

counted_turned : (most s : ℕ) (d : Option sync.Deed) (move : Counts → Counts) (orders : ℕ) (pictures : Pictures) (left : List State) (old new : JudgeData) → CountsAtMost most old → HasTurned s d move orders pictures left old new → orders ≤ most + 1
    → ((k : Counts) → k.ordered ≤ most → k.finished ≤ most → ((move k).ordered ≤ most + 1) × ((move k).finished ≤ most + 1)) → CountsAtMost (most + 1) new
counted_turned most s d move orders pictures left old new few turned drawn moves =
    let was = watch_counted most old s turned.was few turned.here in
    let next = moves (counts_of turned.was) was.0 was.1 in
    let ordered = ap (λ (k : Counts). k.ordered) turned.moved in
    let finished = ap (λ (k : Counts). k.finished) turned.moved in
    let d = turned.drawn in
    counted_put most old new s turned.now few (omega (arith, d, drawn)) turned.put (omega (arith, ordered, next.0)) (omega (arith, finished, next.1))

pub counted_entered : (most : ℕ) (p : PlansData) (e : Event) (old new : JudgeData) → CountsAtMost most old → HasEntered p e old new → CountsAtMost (most + 1) new
counted_entered most p (Order s n c) old new few turned = let d = few.drawn in counted_turned most s _ _ _ _ _ old new few turned (omega arith) (λ k a b. (omega arith, omega arith))
counted_entered most p (Step s words) old new few turned = let d = few.drawn in counted_turned most s _ _ _ _ _ old new few turned (omega arith) (λ k a b. (omega arith, omega arith))
counted_entered most p (Finish s n) old new few turned = let d = few.drawn in counted_turned most s _ _ _ _ _ old new few turned (omega arith) (λ k a b. (omega arith, omega arith))
counted_entered most p (Lost s why words) old new few turned = let d = few.drawn in counted_turned most s _ _ _ _ _ old new few turned (omega arith) (λ k a b. (omega arith, omega arith))
counted_entered most p (Close s) old new few turned = let d = few.drawn in counted_turned most s _ _ _ _ _ old new few turned (omega arith) (λ k a b. (omega arith, omega arith))

-- few enough that one more can be counted
pub counted_within : (few most : ℕ) (j : JudgeData) → few ≤ most → CountsAtMost few j → CountsAtMost most j
counted_within few most j less counted = record {
  drawn = (let d = counted.drawn in omega arith);
  each = λ k watch at. (let both = counted.each k watch at in (omega (arith, both.0), omega (arith, both.1)));
}
