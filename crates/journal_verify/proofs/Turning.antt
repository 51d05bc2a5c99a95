-- The record fits the plans after each event.
use Rattle.std.proofs.Common.{◌≡◌, ◌≢◌, ◌++◌, Bool, false, ℕ, zero, suc, ◌-◌, ◌≤◌, ◌<◌, ◌⊎◌, inl, inr, Some, List, [], ◌∷◌, length, get_or, set, refl, sym, ap, subst, ◌∙◌, arith}
use Rattle.std.specs.Prelude.{slice_get}
use Rattle.std.specs.List.{All}
use Rattle.std.proofs.lemmas.Bool.{cases_eq}
use Rattle.std.proofs.lemmas.List.{get_or-set_same, get_or-set_other, length-set}
use Rattle.std.proofs.lemmas.List.Elements.{All-get_or}
use Rattle.std.proofs.lemmas.Option.{slice_get_read, slice_get_within, slice_get-get_or, get_or_from_slice_get}
use Rattle.gpu_plan.specs.Plans.{PlanData, PlansData, plan_of}
use Rattle.gpu_plan.specs.Passes.{bound}
use Rattle.journal_verify.specs.Client.{Client, IsClientOfActions}
use Rattle.sync_core.specs.Standing.{IsKnown}
use Rattle.sync_core.specs.Core.{Core, unprocessed_of}
use Rattle.sync_core.proofs.Stands.{has_known}
use Rattle.gpu_cmd.specs.Lawful.{IsLawfulAreas}
use Rattle.stream_state.specs.State.{first_state}
use Rattle.gpu_journal.specs.Replaying.{IsWithinQuota}
use Rattle.journal_verify.specs.Kept.{WatchData, JudgeData, watch_of, IsWatch, AreWatched}
use Rattle.journal_verify.specs.Faults.{kept_state}
use Rattle.journal_verify.specs.Entered.{FitsPlans}

pub no_watch : WatchData
no_watch = record { ordered = 0; finished = 0; token = 0; stays = false; client = record { held = record { done = 0; values = [] }; reached = record { upto = 0; behind = 0; values = []; ends = []; older = [] } }; flushes = [] }

-- ---- what is read of a stream

watch_read : (watches : List WatchData) (s : ℕ) (j : JudgeData) (w : WatchData) → j.watches ≡ watches → 1 ≤ s → s ≤ length watches → w ≡ get_or watches (s - 1) w → watch_of j s ≡ Some w
watch_read watches zero j w is some within at = absurd (omega arith)
watch_read watches (suc k) j w is some within at =
    let here : suc k - 1 ≡ k = omega arith in
    ap (λ (ws : List WatchData). slice_get ws k) is ∙ slice_get_read watches (length watches) k w refl (omega arith) (at ∙ ap (λ i. get_or watches i w) here)

pub watch_here : (p : PlansData) (j : JudgeData) (s : ℕ) (w : WatchData) → FitsPlans p j → IsKnown (length p.plans) s → w ≡ get_or j.watches (s - 1) w → watch_of j s ≡ Some w
watch_here p j s w fits known at = watch_read j.watches s j w refl (omega (arith, known.0)) (omega (arith, known.1, fits.watches)) at

watch_fits : (p : PlansData) (j : JudgeData) (s : ℕ) (w : WatchData) → FitsPlans p j → watch_of j s ≡ Some w → IsWatch (plan_of p s) w
watch_fits p j zero w fits at = absurd (cc)
watch_fits p j (suc k) w fits at = fits.watched k w at

pub is_watch_here : (p : PlansData) (j : JudgeData) (s : ℕ) (w : WatchData) → FitsPlans p j → IsKnown (length p.plans) s → w ≡ get_or j.watches (s - 1) w → IsWatch (plan_of p s) w
is_watch_here p j s w fits known at = watch_fits p j s w fits (watch_here p j s w fits known at)

-- a stream of which something is kept is one of the script
pub known_of_watch : (p : PlansData) (j : JudgeData) (s : ℕ) (w : WatchData) → FitsPlans p j → watch_of j s ≡ Some w → IsKnown (length p.plans) s
known_of_watch p j zero w fits at = absurd (cc)
known_of_watch p j (suc k) w fits at = let lt = slice_get_within j.watches k w at in (omega arith, omega (arith, lt, fits.watches))

-- ---- what is put in place of a part

pub get_put : {X : Type 0} (xs : List X) (i k : ℕ) (x y : X) → slice_get (set xs i y) k ≡ Some x → ((i ≡ k) × (x ≡ y)) ⊎ ((i ≢ k) × (slice_get xs k ≡ Some x))
get_put xs i k x y e =
    let lt = slice_get_within (set xs i y) k x e in
    let inside : k < length xs = omega (arith, lt, length-set xs i y) in
    let read = get_or_from_slice_get (set xs i y) k x x e in
    elim (cases_eq i k) [
      | inl same ↦ inl (same, sym read ∙ ap (λ k. get_or (set xs i y) k x) (sym same) ∙ get_or-set_same xs i y x (omega arith))
      | inr apart ↦ inr (apart, slice_get-get_or xs k x inside ∙ ap Some (sym (get_or-set_other xs i k y x (λ q. apart (sym q))) ∙ read))
    ]

pub watched_put : (p : PlansData) (watches : List WatchData) (s : ℕ) (now : WatchData) → AreWatched p watches → 1 ≤ s → IsWatch (plan_of p s) now → AreWatched p (set watches (s - 1) now)
watched_put p watches s now watched some is = λ k watch e. elim (get_put watches (s - 1) k watch now e) [
  | inl here ↦ (
      let same : s ≡ suc k = omega (arith, here.0) in
      subst (λ (w : WatchData). IsWatch (plan_of p (suc k)) w) (sym here.1) (subst (λ s. IsWatch (plan_of p s) now) same is))
  | inr other ↦ watched k watch other.1
]

-- a watch that differs in its orders or its standing alone
pub is_watch_same : (plan : PlanData) (was now : WatchData) → now.client ≡ was.client → now.finished ≡ was.finished → now.token ≡ was.token → now.flushes ≡ was.flushes → IsWatch plan was → IsWatch plan now
is_watch_same plan was now client finished token flushes is = record {
  laid_out = is.laid_out;
  client = subst (IsClientOfActions plan.actions) (sym client) is.client;
  most = ap (λ (c : Client). c.reached.upto) client ∙ is.most ∙ (λ i. bound plan.actions (sym finished i) (sym token i ∷ []));
  least = λ place at. ap (λ (c : Client). c.held.done) client ∙ is.least place ((λ i. slice_get (sym flushes i) (sym finished i)) ∙ at);
  flushes = flushes ∙ is.flushes;
}

pub fits_turned : (p : PlansData) (old new : JudgeData) (s : ℕ) (now : WatchData) → FitsPlans p old → IsKnown (length p.plans) s → new.core.drawn ≡ new.drawn → length new.core.streams ≡ length old.core.streams → length new.states ≡ length old.states → All IsWithinQuota new.states
    → new.watches ≡ set old.watches (s - 1) now → IsWatch (plan_of p s) now → FitsPlans p new
fits_turned p old new s now fits known drawn count states within put is = record {
  drawn = drawn;
  core = count ∙ fits.core;
  states = states ∙ fits.states;
  watches = ap length put ∙ length-set old.watches (s - 1) now ∙ fits.watches;
  watched = subst (AreWatched p) (sym put) (watched_put p old.watches s now fits.watched (omega (arith, known.0)) is);
  within = within;
}

-- ---- the report of a judge before a call, from what it shows

pub is_watch_seen : (p : PlansData) (old shown : JudgeData) (s : ℕ) (w : WatchData) → old ≡ shown → FitsPlans p shown → IsKnown (length p.plans) s → w ≡ get_or old.watches (s - 1) w → IsWatch (plan_of p s) w
is_watch_seen p old shown s w view fits known at = is_watch_here p old s w (subst (FitsPlans p) (sym view) fits) known at

-- a call changed the orders of one watch or its standing, and no more of it
pub fits_stood : (p : PlansData) (old shown : JudgeData) (s : ℕ) (was now : WatchData) (ordered : ℕ) (stays : Bool) (drawn : ℕ) (core : Core) → old ≡ shown → FitsPlans p shown → IsKnown (length p.plans) s → was ≡ get_or old.watches (s - 1) was
    → now ≡ record was { ordered = ordered; stays = stays } → (old.core.drawn ≡ old.drawn → core.drawn ≡ drawn) → length core.streams ≡ length old.core.streams → FitsPlans p (record old { drawn = drawn; core = core; watches = set old.watches (s - 1) now })
fits_stood p old shown s was now ordered stays drawn core view fits known at changed counted count =
    let before : FitsPlans p old = subst (FitsPlans p) (sym view) fits in
    let is = is_watch_same (plan_of p s) was now (ap (λ (w : WatchData). w.client) changed) (ap (λ (w : WatchData). w.finished) changed) (ap (λ (w : WatchData). w.token) changed) (ap (λ (w : WatchData). w.flushes) changed) (is_watch_here p old s was before known at) in
    fits_turned p old (record old { drawn = drawn; core = core; watches = set old.watches (s - 1) now }) s now before known (counted before.drawn) count refl before.within refl is

-- a stream with a number is one of the script
pub front_known : (p : PlansData) (j : JudgeData) (s : ℕ) → FitsPlans p j → 0 < length (unprocessed_of j.core s) → IsKnown (length p.plans) s
front_known p j s fits some = subst (λ n. IsKnown n s) fits.core (has_known j.core.streams s some)

-- the areas of a stream with a number are lawful, and its state is within its bounds
pub lawful_kept : (p : PlansData) (j : JudgeData) (s : ℕ) → FitsPlans p j → IsKnown (length p.plans) s → IsLawfulAreas (plan_of p s).areas
lawful_kept p j zero fits known = absurd (omega (arith, known.0))
lawful_kept p j (suc k) fits known =
    let inside : k < length j.watches = omega (arith, known.1, fits.watches) in
    (fits.watched k (get_or j.watches k no_watch) (slice_get-get_or j.watches k no_watch inside)).laid_out

pub within_kept : (p : PlansData) (j : JudgeData) (s : ℕ) → FitsPlans p j → IsKnown (length p.plans) s → IsWithinQuota (kept_state j s)
within_kept p j zero fits known = absurd (omega (arith, known.0))
within_kept p j (suc k) fits known = All-get_or IsWithinQuota j.states k first_state (omega (arith, known.1, fits.states)) fits.within

-- what is pushed stands after the others
pub get_push : {X : Type 0} (xs : List X) (k : ℕ) (x y : X) → slice_get (xs ++ y ∷ []) k ≡ Some x → ((k ≡ length xs) × (x ≡ y)) ⊎ (slice_get xs k ≡ Some x)
get_push [] zero x y e = let same : y ≡ x = cc in inl (refl, sym same)
get_push [] (suc k) x y e = absurd (cc)
get_push (z ∷ xs) zero x y e = inr e
get_push (z ∷ xs) (suc k) x y e = elim (get_push xs k x y e) [ inl here ↦ inl (ap suc here.0, here.1) | inr other ↦ inr other ]
