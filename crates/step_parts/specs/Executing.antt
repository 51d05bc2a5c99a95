-- A step: what it finds, the report of it, and what it leaves.
use Rattle.std.specs.Prelude.{◌≡◌, ℕ, ◌<◌, Bool, false, List, length, Option, Some, None, Result, IfOk, OnErr, IsErr, IsTrue}
use Rattle.std.specs.List.{All}
use Rattle.gpu_cmd.specs.declared.areas.Areas.{Areas}
use Rattle.gpu_cmd.specs.Spans.{words_in}
use Rattle.gpu_store.specs.declared.op.Answer.{Answer}
use Rattle.gpu_store.specs.Images.{Pictures}
use Rattle.gpu_plan.specs.Plans.{plan_of}
use Rattle.stream_state.specs.declared.effect.Effect.{Effect}
use Rattle.stream_state.specs.State.{State, noted}
use Rattle.stream_state.specs.Steps.{command_in, effect, stepped, writes}
use Rattle.stream_state.specs.Accepted.{BringsItsTexels, takes_memory}
use Rattle.stream_state.specs.Told.{writes_told}
use Rattle.stream_state.specs.Laws.{IsTaken}
use Rattle.sync_core.specs.Standing.{IsKnown}
use Rattle.sync_core.specs.Events.{SyncEvent, happened}
use Rattle.sync_core.specs.Core.{Core, StandsFor, unprocessed_of}
use Rattle.gpu_journal.specs.World.{drawn_by}
use Rattle.gpu_journal.specs.Waits.{deed_asked}
use Rattle.gpu_journal.specs.Replaying.{IsWithinQuota}
use Rattle.step_parts.specs.declared.acted.Acted.{Acted}
use Rattle.step_parts.specs.declared.scene.Scene.{Scene}
use Rattle.step_parts.specs.declared.taken.Taken.{Taken}
use Rattle.step_parts.specs.Claims.{IsPlain, wants_memory}
use Rattle.step_parts.specs.Keeping.{keeps}

-- the areas of the stream that the command was taken for
abbrev pub areas_of : Taken → Areas
areas_of taken = (plan_of taken.plans.now taken.stream).areas

-- what a step on what was taken asks of the rest of the service, in this state of its stream
abbrev pub asks : Taken → State → Effect
asks taken state = effect (areas_of taken) taken.words.now state

-- the command of the words passed all checks in the state of its stream
pub record HasPassed (taken : Taken) (state : State) : Type 0 where
  pub known : IsKnown (length taken.plans.now.plans) taken.stream
  pub accepted : IsTaken (areas_of taken) taken.words.now state
  pub command : taken.command.now ≡ command_in taken.words.now
  pub within : IsWithinQuota state

-- and the stream has an unprocessed number
pub record IsReady (taken : Taken) (sync : Core) (state : State) : Type 0 where
  pub passed : HasPassed taken state
  pub streams : length sync.streams ≡ length taken.plans.now.plans
  pub front : 0 < length (unprocessed_of sync taken.stream)

-- the report of a step on these words, in this state of its stream and on these images, where `keeps` says which waits
-- are kept:
-- - what it asked for, how that was answered, and whether its wait was kept
-- - what it writes, in result places of its stream
-- - that an upload brings a texel for each of its rectangle
pub record IsToldOf (areas : Areas) (words : List (ℕ × ℕ)) (state : State) (images : Pictures) (keeps : Effect → Bool) (acted : Acted) : Type 0 where
  pub effect : acted.effect ≡ effect areas words state
  pub answer : acted.answer ≡ (drawn_by acted.effect images).answer
  pub kept : acted.kept ≡ keeps acted.effect
  pub writes : writes_told acted.effect ≡ writes areas words state
  pub places : All (λ write. write.0 < words_in areas.results) (writes_told acted.effect)
  pub texels : BringsItsTexels acted.effect

-- what a step of what was taken asked for is done: what it draws, and its sync event, for every list of sync events that the core
-- stood for
pub record Follows (taken : Taken) (old new : Scene) (asked : Effect) : Type 0 where
  pub images : new.images ≡ (drawn_by asked old.images).images
  pub waits : (h : List SyncEvent) → StandsFor old.sync h
      → StandsFor new.sync (happened taken.stream (deed_asked taken.plans.now asked) h)
  pub drawn : new.sync.drawn ≡ old.sync.drawn
  pub count : length new.sync.streams ≡ length old.sync.streams

-- what a command claims is done, where its stream wants no memory for that: how it was answered, and whether its wait was kept.
-- Where it claims nothing, nothing has changed
abbrev pub MeetsClaim : Taken → Scene → Scene → Effect → Option (Answer × Bool) → Type 0
MeetsClaim taken old new asked None = IsPlain asked × (new ≡ old)
MeetsClaim taken old new asked (Some did) =
    (takes_memory taken.command.now ≡ false) × Follows taken old new asked × (did.0 ≡ (drawn_by asked old.images).answer) × (did.1 ≡ keeps taken.plans.now old.sync taken.stream asked)

-- what was taken is executed: the report of that, what it does to the scene, and the state that it leaves its stream
pub record Executes (taken : Taken) (old new : Scene) (before after : State) (acted : Acted) : Type 0 where
  pub told : IsToldOf (areas_of taken) taken.words.now before old.images (keeps taken.plans.now old.sync taken.stream) acted
  pub scene : Follows taken old new acted.effect
  pub state : after ≡ noted acted.answer (stepped (areas_of taken) taken.words.now before)

-- how executing what was taken is answered: it is executed, or nothing has changed, where its command may want memory
pub record AnswersAct {E : Type 0} (taken : Taken) (old new : Scene) (before after : State) (result : Result Acted E) : Type 0 where
  pub executes : IfOk result (Executes taken old new before after)
  pub same_scene : OnErr result (new ≡ old)
  pub same_state : OnErr result (after ≡ before)
  pub free : IsErr result → IsTrue (wants_memory taken.command.now)
