-- What an event that obeys all rules changes of the record.
use Rattle.std.specs.Prelude.{◌≡◌, ℕ, ◌+◌, ◌-◌, ◌≤◌, Bool, false, Option, Some, None, Result, IfOk, IfErr, List, length, slice_get, slice_set}
use Rattle.std.specs.List.{All}
use Rattle.gpu_store.specs.Images.{Pictures, Applied}
use Rattle.gpu_plan.specs.Plans.{PlansData, plan_of}
use Rattle.stream_state.specs.declared.effect.Effect.{Effect}
use Rattle.stream_state.specs.declared.effect.Effect.TheVariants.{Nothing}
use Rattle.stream_state.specs.State.{State, noted}
use Rattle.stream_state.specs.Steps.{stepped, effect}
use Rattle.sync_core.specs.Events as sync
use Rattle.sync_core.specs.Core.{StandsFor}
use Rattle.gpu_journal.specs.declared.event.Event.{Event}
use Rattle.gpu_journal.specs.declared.event.Event.TheVariants.{Order, Step, Finish, Lost, Close}
use Rattle.gpu_journal.specs.World.{drawn_by, greatest_after}
use Rattle.gpu_journal.specs.Waits.{fences_in, deed_asked}
use Rattle.gpu_journal.specs.Replaying.{IsWithinQuota}
use Rattle.journal_verify.specs.Kept.{WatchData, JudgeData, watch_of, AreWatched}
use Rattle.journal_verify.specs.Faults.{kept_state, fault_of, fault_in}

-- the record has a part for each stream of the plans, which fits its plan
pub record FitsPlans (p : PlansData) (judge : JudgeData) : Type 0 where
  pub drawn : judge.core.drawn ≡ judge.drawn
  pub core : length judge.core.streams ≡ length p.plans
  pub states : length judge.states ≡ length p.plans
  pub watches : length judge.watches ≡ length p.plans
  pub watched : AreWatched p judge.watches
  pub within : All IsWithinQuota judge.states

-- no more than this many orders and finishes are counted
pub record CountsAtMost (most : ℕ) (judge : JudgeData) : Type 0 where
  pub drawn : judge.drawn ≤ most
  pub each : (k : ℕ) (watch : WatchData) → slice_get judge.watches k ≡ Some watch → (watch.ordered ≤ most) × (watch.finished ≤ most)

-- the counts, the greatest token and the standing of a stream
pub record Counts : Type 0 where
  pub ordered : ℕ
  pub finished : ℕ
  pub token : ℕ
  pub stays : Bool

-- those of a watch
abbrev pub counts_of : WatchData → Counts
counts_of watch = record { ordered = watch.ordered; finished = watch.finished; token = watch.token; stays = watch.stays }

-- the watch of stream s has other counts, its core heard of its deed, and the images, the states and the number of orders
-- are these
pub record HasTurned (s : ℕ) (deed : Option sync.Deed) (move : Counts → Counts) (orders : ℕ) (pictures : Pictures) (left : List State) (old new : JudgeData) : Type 0 where
  pub was : WatchData
  pub now : WatchData
  pub here : watch_of old s ≡ Some was
  pub moved : counts_of now ≡ move (counts_of was)
  pub put : new.watches ≡ slice_set old.watches (s - 1) now
  pub drawn : new.drawn ≡ orders
  pub core : (g : List sync.SyncEvent) → StandsFor old.core g → StandsFor new.core (sync.happened s deed g)
  pub images : new.images ≡ pictures
  pub states : new.states ≡ left

-- the effect and the answer of a step
abbrev pub effect_in : PlansData → JudgeData → ℕ → List (ℕ × ℕ) → Effect
effect_in p judge s words = effect (plan_of p s).areas words (kept_state judge s)

abbrev pub applied_in : PlansData → JudgeData → ℕ → List (ℕ × ℕ) → Applied
applied_in p judge s words = drawn_by (effect_in p judge s words) judge.images

-- the state of stream s after a step
abbrev pub state_after : PlansData → JudgeData → ℕ → List (ℕ × ℕ) → State
state_after p judge s words = noted (applied_in p judge s words).answer (stepped (plan_of p s).areas words (kept_state judge s))

-- what an event changes
abbrev pub HasEntered : PlansData → Event → JudgeData → JudgeData → Type 0
HasEntered p (Order s n c) old new = HasTurned s (Some (sync.Ordered (fences_in (slice_get (plan_of p s).actions c)))) (λ k. record k { ordered = k.ordered + 1 }) (old.drawn + 1) old.images old.states old new
HasEntered p (Step s words) old new = HasTurned s (deed_asked p (effect_in p old s words)) (λ k. record k { token = greatest_after (effect_in p old s words) k.token }) old.drawn (applied_in p old s words).images (slice_set old.states (s - 1) (state_after p old s words)) old new
HasEntered p (Finish s n) old new = HasTurned s (Some sync.Finished) (λ k. record k { finished = k.finished + 1 }) old.drawn old.images old.states old new
HasEntered p (Lost s why words) old new = HasTurned s (Some sync.WasLost) (λ k. record k { stays = false }) old.drawn old.images old.states old new
HasEntered p (Close s) old new = HasTurned s (Some sync.WasClosed) (λ k. record k { stays = false }) old.drawn old.images old.states old new

-- what an event asks of the rest of the service, where it obeys all rules
abbrev pub IsEffect : PlansData → JudgeData → Event → Effect → Type 0
IsEffect p judge (Order s n c) effect = effect ≡ Nothing
IsEffect p judge (Step s words) effect = effect ≡ effect_in p judge s words
IsEffect p judge (Finish s n) effect = effect ≡ Nothing
IsEffect p judge (Lost s why words) effect = effect ≡ Nothing
IsEffect p judge (Close s) effect = effect ≡ Nothing

-- how an event is judged: the first rule that it breaks, which changes nothing; or where it breaks none, it is taken up, and this
-- is what it asks of the rest of the service
pub record JudgesSo (p : PlansData) (e : Event) (old new : JudgeData) (taken : Result Effect ℕ) : Type 0 where
  pub fault : fault_in taken ≡ fault_of p old e
  pub entered : fault_in taken ≡ None → HasEntered p e old new
  pub effect : IfOk taken (IsEffect p old e)
  pub kept : IfErr taken (λ rule. new ≡ old)
  pub fits : FitsPlans p new
