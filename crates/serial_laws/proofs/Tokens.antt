-- Of the tokens of a stream only the greatest counts.
use Rattle.std.proofs.Common.{◌≡◌, ℕ, eqb, Bool, true, false, List, [], ◌∷◌, refl, sym, subst}
use Rattle.std.proofs.lemmas.Bool.{eqb-true}
use Rattle.gpu_plan.specs.declared.plan.Action.{Action}
use Rattle.gpu_plan.specs.Plans.{PlansData, plan_of}
use Rattle.gpu_plan.specs.Passes.{bound, greatest}
use Rattle.gpu_plan.proofs.Passing.{bound_by_greatest}
use Rattle.stream_state.specs.declared.effect.Effect.{Effect}
use Rattle.stream_state.specs.declared.effect.Effect.TheVariants.{Nothing, Token, Release, Wait, WaitName, Pixels, Results}
use Rattle.gpu_journal.specs.declared.event.Event.{Event}
use Rattle.gpu_journal.specs.declared.event.Event.TheVariants.{Order, Step, Finish, Lost, Close}
use Rattle.gpu_journal.specs.World.{Known, World, world, stream_in, asked_by, tokens_after, known, known_after}
use Rattle.gpu_journal.specs.Facts.{reach}
use Rattle.gpu_journal.proofs.Worlds.{world_none}
use Rattle.serial_laws.proofs.Others.{known_own, known_other}

-- there is a token
abbrev pub HasToken : List ℕ → Type 0
HasToken [] = ⊥
HasToken (token ∷ tokens) = Unit {0}

has_more : (effect : Effect) (tokens : List ℕ) → HasToken tokens → HasToken (tokens_after effect tokens)
has_more Nothing tokens some = some
has_more (Token token) tokens some = tt
has_more (Release r) tokens some = some
has_more (Wait t r) tokens some = some
has_more (WaitName name r) tokens some = some
has_more (Pixels op) tokens some = some
has_more (Results write) tokens some = some

has_after : (p : PlansData) (e : Event) (w : World) (k : Known) → HasToken k.tokens → HasToken (known_after p e w k).tokens
has_after p (Order s n c) w k some = some
has_after p (Step s words) w k some = has_more (asked_by p s words w) k.tokens some
has_after p (Finish s n) w k some = some
has_after p (Lost s why words) w k some = some
has_after p (Close s) w k some = some

-- a stream has a token, be it the 0 from before its steps
pub has_token : (p : PlansData) (h : List Event) (s : ℕ) → HasToken (known p h s).tokens
has_token p [] s = subst (λ (w : World). HasToken (w.streams s).tokens) (sym (world_none p)) tt
has_token p (e ∷ h) s = by (has_token p h) (eqb (stream_in e) s) refl
  where
    own : HasToken (known p h (stream_in e)).tokens → HasToken (known p (e ∷ h) (stream_in e)).tokens
    own was = subst (λ (k : Known). HasToken k.tokens) (sym (known_own p e h)) (has_after p e (world p h) (known p h (stream_in e)) was)

    by : ((t : ℕ) → HasToken (known p h t).tokens) → (b : Bool) → eqb (stream_in e) s ≡ b → HasToken (known p (e ∷ h) s).tokens
    by was true q = subst (λ t. HasToken (known p (e ∷ h) t).tokens) (eqb-true (stream_in e) s q) (own (was (stream_in e)))
    by was false q = subst (λ (k : Known). HasToken k.tokens) (sym (known_other p e h s q)) (was s)

bound_of_greatest : (actions : List Action) (finished : ℕ) (tokens : List ℕ) → HasToken tokens → bound actions finished tokens ≡ bound actions finished (greatest tokens ∷ [])
bound_of_greatest actions finished [] some = absurd some
bound_of_greatest actions finished (token ∷ tokens) some = bound_by_greatest actions finished token tokens

-- how far a client can be, by the greatest token alone
pub reach_is : (p : PlansData) (h : List Event) (s : ℕ) → reach p h s ≡ bound (plan_of p s).actions (known p h s).finished (greatest (known p h s).tokens ∷ [])
reach_is p h s = bound_of_greatest (plan_of p s).actions (known p h s).finished (known p h s).tokens (has_token p h s)
