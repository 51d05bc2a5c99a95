-- What each kind of event makes of the facts of its own stream.
use Rattle.std.proofs.Common.{◌≡◌, ℕ, ◌+◌, List, ◌∷◌, refl, ap, ◌∙◌}
use Rattle.gpu_plan.specs.Plans.{PlansData, plan_of}
use Rattle.gpu_plan.specs.Passes.{greatest}
use Rattle.stream_state.specs.declared.effect.Effect.{Effect}
use Rattle.stream_state.specs.declared.effect.Effect.TheVariants.{Nothing, Token, Release, Wait, WaitName, Pixels, Results}
use Rattle.stream_state.specs.State.{noted}
use Rattle.stream_state.specs.Steps.{stepped}
use Rattle.gpu_journal.specs.declared.event.Event.{Event}
use Rattle.gpu_journal.specs.declared.event.Event.TheVariants.{Order, Step, Finish, Lost, Close}
use Rattle.gpu_journal.specs.declared.event.Why.{Why}
use Rattle.gpu_journal.specs.World.{Known, world, asked_by, drawn_by, tokens_after, greatest_after, known, known_after_step, state_of, replay}
use Rattle.gpu_journal.proofs.Worlds.{images_then}
use Rattle.serial_laws.proofs.Others.{known_own}

-- one more flush is ordered
pub known_order : (p : PlansData) (h : List Event) (s n c : ℕ) → known p (Order s n c ∷ h) s ≡ record (known p h s) { ordered = (known p h s).ordered + 1 }
known_order p h s n c = known_own p (Order s n c) h

-- the state goes on, and a token is added where the step sets one
pub known_step : (p : PlansData) (h : List Event) (s : ℕ) (words : List (ℕ × ℕ)) → known p (Step s words ∷ h) s ≡ known_after_step p s words (asked_by p s words (world p h)) (drawn_by (asked_by p s words (world p h)) (replay p h)) (known p h s)
known_step p h s words = known_own p (Step s words) h

-- one more flush is finished
pub known_finish : (p : PlansData) (h : List Event) (s n : ℕ) → known p (Finish s n ∷ h) s ≡ record (known p h s) { finished = (known p h s).finished + 1 }
known_finish p h s n = known_own p (Finish s n) h

-- a loss changes nothing
pub known_lost : (p : PlansData) (h : List Event) (s : ℕ) (why : Why) (words : List (ℕ × ℕ)) → known p (Lost s why words ∷ h) s ≡ known p h s
known_lost p h s why words = known_own p (Lost s why words) h

-- nor does a close
pub known_close : (p : PlansData) (h : List Event) (s : ℕ) → known p (Close s ∷ h) s ≡ known p h s
known_close p h s = known_own p (Close s) h

-- ---- of a step, field by field

pub step_state : (p : PlansData) (h : List Event) (s : ℕ) (words : List (ℕ × ℕ)) → state_of p (Step s words ∷ h) s ≡ noted (drawn_by (asked_by p s words (world p h)) (replay p h)).answer (stepped (plan_of p s).areas words (state_of p h s))
step_state p h s words = ap (λ (k : Known). k.state) (known_step p h s words)

pub step_ordered : (p : PlansData) (h : List Event) (s : ℕ) (words : List (ℕ × ℕ)) → (known p (Step s words ∷ h) s).ordered ≡ (known p h s).ordered
step_ordered p h s words = ap (λ (k : Known). k.ordered) (known_step p h s words)

pub step_finished : (p : PlansData) (h : List Event) (s : ℕ) (words : List (ℕ × ℕ)) → (known p (Step s words ∷ h) s).finished ≡ (known p h s).finished
step_finished p h s words = ap (λ (k : Known). k.finished) (known_step p h s words)

pub step_tokens : (p : PlansData) (h : List Event) (s : ℕ) (words : List (ℕ × ℕ)) → (known p (Step s words ∷ h) s).tokens ≡ tokens_after (asked_by p s words (world p h)) (known p h s).tokens
step_tokens p h s words = ap (λ (k : Known). k.tokens) (known_step p h s words)

greatest_more : (effect : Effect) (tokens : List ℕ) → greatest (tokens_after effect tokens) ≡ greatest_after effect (greatest tokens)
greatest_more Nothing tokens = refl
greatest_more (Token token) tokens = refl
greatest_more (Release r) tokens = refl
greatest_more (Wait t r) tokens = refl
greatest_more (WaitName name r) tokens = refl
greatest_more (Pixels op) tokens = refl
greatest_more (Results write) tokens = refl

pub step_greatest : (p : PlansData) (h : List Event) (s : ℕ) (words : List (ℕ × ℕ)) → greatest (known p (Step s words ∷ h) s).tokens ≡ greatest_after (asked_by p s words (world p h)) (greatest (known p h s).tokens)
step_greatest p h s words = ap greatest (step_tokens p h s words) ∙ greatest_more (asked_by p s words (world p h)) (known p h s).tokens

-- ---- of the images

pub step_images : (p : PlansData) (h : List Event) (s : ℕ) (words : List (ℕ × ℕ)) → replay p (Step s words ∷ h) ≡ (drawn_by (asked_by p s words (world p h)) (replay p h)).images
step_images p h s words = images_then p (Step s words) h
