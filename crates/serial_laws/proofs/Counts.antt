-- How far clients are: the counts of the rule for one thread stay within the bounds of the clients, and neither falls.
use Rattle.std.proofs.Common.{◌≡◌, ℕ, ◌+◌, ◌≤◌, ◌<◌, eqb, Bool, true, false, cond, List, [], ◌∷◌, take, refl, sym, ap, subst, arith}
use Rattle.std.proofs.lemmas.Bool.{eqb-true, both_ways}
use Rattle.std.specs.Prelude.{Some, slice_get}
use Rattle.gpu_plan.specs.declared.plan.Action.TheVariants as actions
use Rattle.gpu_plan.specs.Plans.{PlansData, plan_of}
use Rattle.gpu_plan.specs.Passes.{flushes, bound, passes, passes_if_there}
use Rattle.gpu_plan.proofs.Passing.{bound_grows, bound_grows_by_token, passes_below_bound}
use Rattle.stream_state.specs.declared.effect.Effect.{Effect}
use Rattle.stream_state.specs.declared.effect.Effect.TheVariants.{Nothing, Token, Release, Wait, WaitName, Pixels, Results}
use Rattle.gpu_journal.specs.declared.event.Event.{Event}
use Rattle.gpu_journal.specs.declared.event.Event.TheVariants.{Order, Step, Finish, Lost, Close}
use Rattle.gpu_journal.specs.World.{Known, World, world, stream_in, asked_by, tokens_after, known, known_after}
use Rattle.gpu_journal.specs.Facts.{reach}
use Rattle.gpu_journal.specs.Serial.{begins_round, count}
use Rattle.serial_laws.proofs.Others.{known_own, known_other}

-- the bound of a client by the facts of its stream
abbrev bound_by : PlansData → ℕ → Known → ℕ
bound_by p s k = bound (plan_of p s).actions k.finished k.tokens

token_grows : (p : PlansData) (s f : ℕ) (effect : Effect) (tokens : List ℕ) → bound (plan_of p s).actions f tokens ≤ bound (plan_of p s).actions f (tokens_after effect tokens)
token_grows p s f (Token token) tokens = bound_grows_by_token (plan_of p s).actions f token tokens
token_grows p s f Nothing tokens = omega arith
token_grows p s f (Release r) tokens = omega arith
token_grows p s f (Wait t r) tokens = omega arith
token_grows p s f (WaitName t r) tokens = omega arith
token_grows p s f (Pixels op) tokens = omega arith
token_grows p s f (Results w) tokens = omega arith

event_grows : (p : PlansData) (s : ℕ) (e : Event) (w : World) (k : Known) → bound_by p s k ≤ bound_by p s (known_after p e w k)
event_grows p s (Order t n c) w k = omega arith
event_grows p s (Step t words) w k = token_grows p s k.finished (asked_by p t words w) k.tokens
event_grows p s (Finish t n) w k = bound_grows (plan_of p s).actions k.finished (k.finished + 1) k.tokens k.tokens (omega arith) (λ token some. some)
event_grows p s (Lost t why words) w k = omega arith
event_grows p s (Close t) w k = omega arith

-- the bound of a client never falls
pub reach_grows : (p : PlansData) (e : Event) (h : List Event) (s : ℕ) → reach p h s ≤ reach p (e ∷ h) s
reach_grows p e h s = by (eqb (stream_in e) s) refl
  where
    own : reach p h (stream_in e) ≤ reach p (e ∷ h) (stream_in e)
    own = subst (λ (k : Known). reach p h (stream_in e) ≤ bound_by p (stream_in e) k) (sym (known_own p e h)) (event_grows p (stream_in e) e (world p h) (known p h (stream_in e)))

    by : (b : Bool) → eqb (stream_in e) s ≡ b → reach p h s ≤ reach p (e ∷ h) s
    by true q = subst (λ s. reach p h s ≤ reach p (e ∷ h) s) (eqb-true (stream_in e) s q) own
    by false q = let same : reach p (e ∷ h) s ≡ reach p h s = ap (bound_by p s) (known_other p e h s q) in omega arith

-- a client is at most at its bound
pub count_reach : (p : PlansData) (h : List Event) (s : ℕ) → count p h s ≤ reach p h s
count_reach p [] s = omega arith
count_reach p (e ∷ h) s = by (count_reach p h s) (reach_grows p e h s) (begins_round p (e ∷ h))
  where
    by : count p h s ≤ reach p h s → reach p h s ≤ reach p (e ∷ h) s → (b : Bool) → cond b (reach p (e ∷ h) s) (count p h s) ≤ reach p (e ∷ h) s
    by a g true = omega arith
    by a g false = omega arith

-- and never goes back
pub count_grows : (p : PlansData) (e : Event) (h : List Event) (s : ℕ) → count p h s ≤ count p (e ∷ h) s
count_grows p e h s = by (count_reach p h s) (reach_grows p e h s) (begins_round p (e ∷ h))
  where
    by : count p h s ≤ reach p h s → reach p h s ≤ reach p (e ∷ h) s → (b : Bool) → count p h s ≤ cond b (reach p (e ∷ h) s) (count p h s)
    by a g true = omega arith
    by a g false = omega arith

-- where a round begins it is at its bound
pub count_begun : (p : PlansData) (h : List Event) (s : ℕ) → begins_round p h ≡ true → count p h s ≡ reach p h s
count_begun p [] s e = refl
count_begun p (x ∷ h) s e = ap (λ (b : Bool). cond b (reach p (x ∷ h) s) (count p h s)) e

-- a client that stands at its Close is at its bound
pub close_reach : (p : PlansData) (h : List Event) (s : ℕ) → slice_get (plan_of p s).actions (count p h s) ≡ Some actions.Close → count p h s ≡ reach p h s
close_reach p h s e =
    let most = count_reach p h s in
    let k = known p h s in
    let stops : passes (plan_of p s).actions (count p h s) k.finished k.tokens ≡ false = ap (passes_if_there (flushes (take (count p h s) (plan_of p s).actions)) k.finished k.tokens) e in
    let not_below : count p h s < reach p h s → ⊥ = λ lt. both_ways (passes (plan_of p s).actions (count p h s) k.finished k.tokens) stops (passes_below_bound (plan_of p s).actions (count p h s) k.finished k.tokens lt) in
    omega arith
