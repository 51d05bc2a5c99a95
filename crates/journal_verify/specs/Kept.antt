-- The record while events are judged one after the other.
use Rattle.std.specs.Prelude.{◌≡◌, ℕ, zero, suc, Bool, List, [], ◌∷◌, Option, Some, None, slice_get}
use Rattle.gpu_cmd.specs.Lawful.{IsLawfulAreas}
use Rattle.gpu_store.specs.Images.{Pictures}
use Rattle.gpu_plan.specs.Plans.{PlanData, PlansData, plan_of}
use Rattle.gpu_plan.specs.Passes.{bound}
use Rattle.gpu_plan.specs.Places.{flush_places}
use Rattle.journal_verify.specs.Client.{Client, IsClientOfActions}
use Rattle.stream_state.specs.State.{State}
use Rattle.sync_core.specs.Core.{Core}

-- of a stream: how many of its flushes are ordered and how many finished, its greatest token, whether it is neither lost
-- nor closed, what its client can have done, and the places of its flushes
pub record WatchData : Type 0 where
  pub ordered : ℕ
  pub finished : ℕ
  pub token : ℕ
  pub stays : Bool
  pub client : Client
  pub flushes : List ℕ

-- how many numbers are drawn, the waits, the images, and the state and the rest of each stream
pub record JudgeData : Type 0 where
  pub drawn : ℕ
  pub core : Core
  pub images : Pictures
  pub states : List State
  pub watches : List WatchData

-- the record of stream s
abbrev pub watch_of : JudgeData → ℕ → Option WatchData
watch_of judge zero = None
watch_of judge (suc k) = slice_get judge.watches k

-- the record of a stream fits its plan: its client can have done as much as its numbers let it, and has done all before
-- the first flush that is not finished
pub record IsWatch (plan : PlanData) (watch : WatchData) : Type 0 where
  pub laid_out : IsLawfulAreas plan.areas
  pub client : IsClientOfActions plan.actions watch.client
  pub most : watch.client.reached.upto ≡ bound plan.actions watch.finished (watch.token ∷ [])
  pub least : (place : ℕ) → slice_get watch.flushes watch.finished ≡ Some place → watch.client.held.done ≡ place
  pub flushes : watch.flushes ≡ flush_places plan.actions

-- and so it is of each stream
abbrev pub AreWatched : PlansData → List WatchData → Type 0
AreWatched p watches = (k : ℕ) (watch : WatchData) → slice_get watches k ≡ Some watch → IsWatch (plan_of p (suc k)) watch
