-- How image operations were answered changes no verdict, no effect, and nothing of a state but the counts of its errors.
use Rattle.std.proofs.Common.{◌≡◌, ℕ, Result, Ok, List, length, refl, ap}
use Rattle.gpu_word.specs.Header.{size_of}
use Rattle.gpu_word.specs.Outcome.{◌>>=◌}
use Rattle.gpu_cmd.specs.declared.error.CmdError.{CmdError}
use Rattle.gpu_cmd.specs.declared.command.Command.{Command}
use Rattle.gpu_cmd.specs.declared.command.Command.TheVariants.{Noop, SetToken, SetBucketSize, SetBucketData, SetBucketDataImmediate, GetBucketStart, GetBucketData, InsertFence, WaitToken, WaitSyncToken, CreateImage, DeleteImage, ClearRect, CopyRect, UploadRect, UploadBucket, UploadBuffer, CreateBuffer, DeleteBuffer, BufferData}
use Rattle.gpu_cmd.specs.declared.areas.Areas.{Areas}
use Rattle.gpu_cmd.specs.declared.facts.StreamFacts.{StreamFacts}
use Rattle.gpu_cmd.specs.Copied.{copied}
use Rattle.gpu_store.specs.declared.op.Answer.{Answer}
use Rattle.stream_state.specs.State.{State, noted}
use Rattle.stream_state.specs.Steps.{header_in, command_in, asked, effect_of, acted, moved_on, stepped, effect}
use Rattle.stream_state.specs.Verdict.{checked_state, verdict}
use Rattle.race_laws.specs.Works.{bare}

pub bare_noted : (answer : Answer) (state : State) → bare (noted answer state) ≡ bare state
bare_noted answer state = refl

effect_of_bare : (areas : Areas) (command : Command) (words : List (ℕ × ℕ)) (state : State) → effect_of areas command words (bare state) ≡ effect_of areas command words state
unfolding effect_of asked
effect_of_bare areas Noop words state = refl
effect_of_bare areas (SetToken token) words state = refl
effect_of_bare areas (SetBucketSize bucket size) words state = refl
effect_of_bare areas (SetBucketData bucket offset size memory memory_offset) words state = refl
effect_of_bare areas (SetBucketDataImmediate bucket offset size) words state = refl
effect_of_bare areas (GetBucketStart bucket result_memory result_offset data_size data_memory data_offset) words state = refl
effect_of_bare areas (GetBucketData bucket offset size memory memory_offset) words state = refl
effect_of_bare areas (InsertFence low high) words state = refl
effect_of_bare areas (WaitToken stream low high) words state = refl
effect_of_bare areas (WaitSyncToken namespace id_low id_high low high) words state = refl
effect_of_bare areas (CreateImage image width height) words state = refl
effect_of_bare areas (DeleteImage image) words state = refl
effect_of_bare areas (ClearRect image x y w h texel) words state = refl
effect_of_bare areas (CopyRect source sx sy target dx dy w h) words state = refl
effect_of_bare areas (UploadRect image x y w h format memory offset) words state = refl
effect_of_bare areas (UploadBucket image x y w h format bucket) words state = refl
effect_of_bare areas (UploadBuffer image x y w h format buffer offset) words state = refl
effect_of_bare areas (CreateBuffer buffer size) words state = refl
effect_of_bare areas (DeleteBuffer buffer) words state = refl
effect_of_bare areas (BufferData buffer offset size memory memory_offset) words state = refl

-- the effect of a step
pub effect_bare : (areas : Areas) (words : List (ℕ × ℕ)) (state : State) → effect areas words (bare state) ≡ effect areas words state
unfolding effect
effect_bare areas words state = effect_of_bare areas (command_in words) words state

acted_bare : (areas : Areas) (command : Command) (words : List (ℕ × ℕ)) (state : State) → bare (acted areas command words state) ≡ acted areas command words (bare state)
unfolding acted
acted_bare areas Noop words state = refl
acted_bare areas (SetToken token) words state = refl
acted_bare areas (SetBucketSize bucket size) words state = refl
acted_bare areas (SetBucketData bucket offset size memory memory_offset) words state = refl
acted_bare areas (SetBucketDataImmediate bucket offset size) words state = refl
acted_bare areas (GetBucketStart bucket result_memory result_offset data_size data_memory data_offset) words state = refl
acted_bare areas (GetBucketData bucket offset size memory memory_offset) words state = refl
acted_bare areas (InsertFence low high) words state = refl
acted_bare areas (WaitToken stream low high) words state = refl
acted_bare areas (WaitSyncToken namespace id_low id_high low high) words state = refl
acted_bare areas (CreateImage image width height) words state = refl
acted_bare areas (DeleteImage image) words state = refl
acted_bare areas (ClearRect image x y w h texel) words state = refl
acted_bare areas (CopyRect source sx sy target dx dy w h) words state = refl
acted_bare areas (UploadRect image x y w h format memory offset) words state = refl
acted_bare areas (UploadBucket image x y w h format bucket) words state = refl
acted_bare areas (UploadBuffer image x y w h format buffer offset) words state = refl
acted_bare areas (CreateBuffer buffer size) words state = refl
acted_bare areas (DeleteBuffer buffer) words state = refl
acted_bare areas (BufferData buffer offset size memory memory_offset) words state = refl

-- what a step leaves
pub stepped_bare : (areas : Areas) (words : List (ℕ × ℕ)) (state : State) → bare (stepped areas words state) ≡ stepped areas words (bare state)
unfolding stepped
stepped_bare areas words state = ap (moved_on (size_of (header_in words)) (length words)) (acted_bare areas (command_in words) words state)

checked_bare : (command : Command) (state : State) → checked_state command (bare state) ≡ checked_state command state
unfolding checked_state
checked_bare Noop state = refl
checked_bare (SetToken token) state = refl
checked_bare (SetBucketSize bucket size) state = refl
checked_bare (SetBucketData bucket offset size memory memory_offset) state = refl
checked_bare (SetBucketDataImmediate bucket offset size) state = refl
checked_bare (GetBucketStart bucket result_memory result_offset data_size data_memory data_offset) state = refl
checked_bare (GetBucketData bucket offset size memory memory_offset) state = refl
checked_bare (InsertFence low high) state = refl
checked_bare (WaitToken stream low high) state = refl
checked_bare (WaitSyncToken namespace id_low id_high low high) state = refl
checked_bare (CreateImage image width height) state = refl
checked_bare (DeleteImage image) state = refl
checked_bare (ClearRect image x y w h texel) state = refl
checked_bare (CopyRect source sx sy target dx dy w h) state = refl
checked_bare (UploadRect image x y w h format memory offset) state = refl
checked_bare (UploadBucket image x y w h format bucket) state = refl
checked_bare (UploadBuffer image x y w h format buffer offset) state = refl
checked_bare (CreateBuffer buffer size) state = refl
checked_bare (DeleteBuffer buffer) state = refl
checked_bare (BufferData buffer offset size memory memory_offset) state = refl

-- the verdict on copied words
pub verdict_bare : (words : List (ℕ × ℕ)) (facts : StreamFacts) (state : State) → verdict words facts (bare state) ≡ verdict words facts state
unfolding verdict
verdict_bare words facts state = ap (λ (check : Command → Result (Unit {0}) CmdError). copied words facts >>= λ command. check command >>= λ _. Ok command) (λ i. λ command. checked_bare command state i)
