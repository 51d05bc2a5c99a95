-- The record is what a history says.
use Rattle.std.specs.Prelude.{◌≡◌, ℕ, suc, true, List, [], ◌∷◌, Some, slice_get}
use Rattle.gpu_plan.specs.Plans.{PlanData, PlansData, plan_of}
use Rattle.gpu_plan.specs.Passes.{greatest}
use Rattle.sync_core.specs.Standing.{is_open}
use Rattle.sync_core.specs.Core.{StandsFor}
use Rattle.gpu_journal.specs.declared.event.Event.{Event}
use Rattle.gpu_journal.specs.World.{known}
use Rattle.gpu_journal.specs.Waits.{sync_of, standing_of, drawn}
use Rattle.gpu_journal.specs.Replaying.{Shows}
use Rattle.journal_verify.specs.Kept.{WatchData, JudgeData, IsWatch}
use Rattle.journal_verify.specs.Entered.{FitsPlans, counts_of}

-- this is the greatest of these tokens, of which there are some
abbrev pub IsGreatest : List ℕ → ℕ → Type 0
IsGreatest [] token = ⊥
IsGreatest (first ∷ tokens) token = token ≡ greatest (first ∷ tokens)

-- nothing is counted of a stream yet
pub record IsFirst (plan : PlanData) (watch : WatchData) : Type 0 where
  pub counts : counts_of watch ≡ record { ordered = 0; finished = 0; token = 0; stays = true }
  pub fits : IsWatch plan watch

-- nor of any other
abbrev pub AreFirst : PlansData → List WatchData → Type 0
AreFirst p watches = (k : ℕ) (watch : WatchData) → slice_get watches k ≡ Some watch → IsFirst (plan_of p (suc k)) watch

-- the record of stream s is what the history says of it
pub record IsWatchOf (p : PlansData) (h : List Event) (s : ℕ) (watch : WatchData) : Type 0 where
  pub ordered : watch.ordered ≡ (known p h s).ordered
  pub finished : watch.finished ≡ (known p h s).finished
  pub token : IsGreatest (known p h s).tokens watch.token
  pub stays : watch.stays ≡ is_open (standing_of p h s)

-- and so is all that is kept
pub record Follows (p : PlansData) (h : List Event) (judge : JudgeData) : Type 0 where
  pub fits : FitsPlans p judge
  pub drawn : judge.drawn ≡ drawn p h
  pub sync : StandsFor judge.core (sync_of p h)
  pub shows : Shows p h judge.images judge.states
  pub tells : (k : ℕ) (watch : WatchData) → slice_get judge.watches k ≡ Some watch → IsWatchOf p h (suc k) watch
