-- What holds within a round of the run on one thread.
use Rattle.std.specs.Prelude.{◌≡◌, ◌≢◌, ℕ, ◌+◌, ◌<◌, ◌≤◌, Bool, true, false, List, ◌∷◌, length}
use Rattle.gpu_plan.specs.Plans.{PlansData, plan_of}
use Rattle.gpu_journal.specs.declared.event.Event.{Event}
use Rattle.gpu_journal.specs.declared.event.Event.TheVariants.{Step}
use Rattle.gpu_journal.specs.World.{known}
use Rattle.gpu_journal.specs.Facts.{reach}
use Rattle.gpu_journal.specs.Serial.{count, stays, has_flush, is_at_close, is_runnable, runner, choice, order_event, IsPlayed}
use Rattle.gpu_run.specs.declared.act.Act.{Act}
use Rattle.gpu_run.specs.declared.act.Act.TheVariants.{Stays, Passed, Ordered}
use Rattle.gpu_run.specs.Clients.{flushes_to}

-- ---- one action of a client

-- the client of stream s has done one action more, and could do it
pub record GoesFurther (p : PlansData) (h : List Event) (old new : ℕ → ℕ) (s : ℕ) : Type 0 where
  pub further : new s ≡ old s + 1
  pub others : (t : ℕ) → t ≢ s → new t ≡ old t
  pub below : old s < reach p h s

-- the client of stream s can do no action more, and each flush that it has passed is ordered
pub record StandsStill (p : PlansData) (h : List Event) (done : ℕ → ℕ) (s : ℕ) : Type 0 where
  pub there : done s ≡ reach p h s
  pub ordered : (known p h s).ordered ≡ flushes_to (plan_of p s) (reach p h s)

-- what an action does: nothing, an action that is no flush, or a flush with its order
abbrev pub ActsAs : PlansData → Act → List Event → List Event → (ℕ → ℕ) → (ℕ → ℕ) → ℕ → Type 0
ActsAs p Stays h g old new s = (g ≡ h) × (new ≡ old) × StandsStill p h old s
ActsAs p Passed h g old new s = (g ≡ h) × GoesFurther p h old new s
ActsAs p Ordered h g old new s = (g ≡ order_event p h s ∷ h) × GoesFurther p h old new s × ((known p h s).ordered < flushes_to (plan_of p s) (reach p h s))

-- ---- the three phases

-- while clients act and close: what is played so far, with each count of the rule at its bound, and a new choice next
pub record IsRising (p : PlansData) (h : List Event) : Type 0 where
  pub played : IsPlayed p h
  pub fresh : (t : ℕ) → count p h t ≡ reach p h t
  pub chosen : runner p h ≡ choice p h

-- the clients of streams 1 to k have gone as far as they can
pub record HaveActed (p : PlansData) (h : List Event) (done : ℕ → ℕ) (k : ℕ) : Type 0 where
  pub no_flush : (t : ℕ) → 0 < t → t ≤ k → has_flush p h t ≡ false
  pub there : (t : ℕ) → 0 < t → t ≤ k → stays p h t ≡ true → done t ≡ reach p h t

-- none of streams 1 to k stands at its Close
abbrev pub HaveClosed : PlansData → List Event → ℕ → Type 0
HaveClosed p h k = (t : ℕ) → 0 < t → t ≤ k → is_at_close p h t ≡ false

-- while streams run: no client has passed a flush without an order, none stands at its Close, and each is where the rule has it
pub record IsRunning (p : PlansData) (h : List Event) (done : ℕ → ℕ) : Type 0 where
  pub no_flush : (t : ℕ) → 0 < t → t ≤ length p.plans → has_flush p h t ≡ false
  pub no_close : HaveClosed p h (length p.plans)
  pub there : (t : ℕ) → 0 < t → t ≤ length p.plans → stays p h t ≡ true → done t ≡ count p h t

-- the latest event was a step of stream s, after which that goes on
abbrev pub goes_on : PlansData → List Event → ℕ → Bool
goes_on p (Step t words ∷ h) s = is_runnable p (Step t words ∷ h) s
goes_on p h s = false
