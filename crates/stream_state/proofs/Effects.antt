-- What each command asks for and leaves, command by command, so that no proof above opens a definition of this crate.
use Rattle.std.proofs.Common.{◌≡◌, ℕ, ◌*◌, max, List, length, refl, ap}
use Rattle.gpu_word.specs.Header.{size_of}
use Rattle.gpu_cmd.specs.declared.command.Command.{Command}
use Rattle.gpu_cmd.specs.declared.command.Command.TheVariants.{Noop, SetToken, SetBucketSize, SetBucketData, SetBucketDataImmediate, GetBucketStart, GetBucketData, InsertFence, WaitToken, WaitSyncToken, CreateImage, DeleteImage, ClearRect, CopyRect, UploadRect, UploadBucket, UploadBuffer, CreateBuffer, DeleteBuffer, BufferData}
use Rattle.gpu_cmd.specs.declared.areas.Areas.{Areas}
use Rattle.gpu_cmd.specs.Ranges.{texel_bytes}
use Rattle.gpu_store.specs.declared.op.Op.TheVariants.{Create, Delete, Clear, Copy}
use Rattle.gpu_store.specs.Picture.{rectangle}
use Rattle.stream_state.specs.declared.effect.Effect.TheVariants.{Nothing, Token, Release, Wait, WaitName, Pixels, Results}
use Rattle.stream_state.specs.Blocks.{bytes_in, part, zeros, with_block, without_block, sized, written_over}
use Rattle.stream_state.specs.Writes.{words_written, after_writes}
use Rattle.stream_state.specs.State.{State}
use Rattle.stream_state.specs.Steps.{header_in, command_in, transfer_bytes, immediate_bytes, joined, place_at, start_written, uploaded, effect_of, asked, acted, moved_on, effect, stepped}

-- ---- a step by its command

pub effect_is : (areas : Areas) (words : List (ℕ × ℕ)) (state : State) (command : Command) → command_in words ≡ command → effect areas words state ≡ effect_of areas command words state
unfolding effect
effect_is areas words state command e = ap (λ c. effect_of areas c words state) e

pub stepped_is : (areas : Areas) (words : List (ℕ × ℕ)) (state : State) (command : Command) → command_in words ≡ command
    → stepped areas words state ≡ moved_on (size_of (header_in words)) (length words) (acted areas command words state)
unfolding stepped
stepped_is areas words state command e = ap (λ c. moved_on (size_of (header_in words)) (length words) (acted areas c words state)) e

-- ---- what each command asks for

pub effect_noop : (areas : Areas) (words : List (ℕ × ℕ)) (state : State) → effect_of areas Noop words state ≡ Nothing
unfolding effect_of asked
effect_noop areas words state = refl

pub effect_set_token : (areas : Areas) (words : List (ℕ × ℕ)) (state : State) (token : ℕ) → effect_of areas (SetToken token) words state ≡ Token token
unfolding effect_of asked
effect_set_token areas words state token = refl

pub effect_set_bucket_size : (areas : Areas) (words : List (ℕ × ℕ)) (state : State) (bucket size : ℕ) → effect_of areas (SetBucketSize bucket size) words state ≡ Nothing
unfolding effect_of asked
effect_set_bucket_size areas words state bucket size = refl

pub effect_set_bucket_data : (areas : Areas) (words : List (ℕ × ℕ)) (state : State) (bucket offset size memory memory_offset : ℕ) → effect_of areas (SetBucketData bucket offset size memory memory_offset) words state ≡ Nothing
unfolding effect_of asked
effect_set_bucket_data areas words state bucket offset size memory memory_offset = refl

pub effect_set_bucket_data_immediate : (areas : Areas) (words : List (ℕ × ℕ)) (state : State) (bucket offset size : ℕ) → effect_of areas (SetBucketDataImmediate bucket offset size) words state ≡ Nothing
unfolding effect_of asked
effect_set_bucket_data_immediate areas words state bucket offset size = refl

pub effect_get_bucket_start : (areas : Areas) (words : List (ℕ × ℕ)) (state : State) (bucket result_memory result_offset data_size data_memory data_offset : ℕ) → effect_of areas (GetBucketStart bucket result_memory result_offset data_size data_memory data_offset) words state ≡ Results (start_written areas (bytes_in state.buckets bucket) result_memory result_offset data_size data_memory data_offset)
unfolding effect_of asked
effect_get_bucket_start areas words state bucket result_memory result_offset data_size data_memory data_offset = refl

pub effect_get_bucket_data : (areas : Areas) (words : List (ℕ × ℕ)) (state : State) (bucket offset size memory memory_offset : ℕ) → effect_of areas (GetBucketData bucket offset size memory memory_offset) words state ≡ Results (words_written (place_at areas memory memory_offset) (part (bytes_in state.buckets bucket) offset size))
unfolding effect_of asked
effect_get_bucket_data areas words state bucket offset size memory memory_offset = refl

pub effect_insert_fence : (areas : Areas) (words : List (ℕ × ℕ)) (state : State) (low high : ℕ) → effect_of areas (InsertFence low high) words state ≡ Release (joined low high)
unfolding effect_of asked
effect_insert_fence areas words state low high = refl

pub effect_wait_token : (areas : Areas) (words : List (ℕ × ℕ)) (state : State) (stream low high : ℕ) → effect_of areas (WaitToken stream low high) words state ≡ Wait stream (joined low high)
unfolding effect_of asked
effect_wait_token areas words state stream low high = refl

pub effect_wait_sync_token : (areas : Areas) (words : List (ℕ × ℕ)) (state : State) (namespace id_low id_high low high : ℕ) → effect_of areas (WaitSyncToken namespace id_low id_high low high) words state ≡ WaitName (record { namespace = namespace; id = joined id_low id_high }) (joined low high)
unfolding effect_of asked
effect_wait_sync_token areas words state namespace id_low id_high low high = refl

pub effect_create_image : (areas : Areas) (words : List (ℕ × ℕ)) (state : State) (image width height : ℕ) → effect_of areas (CreateImage image width height) words state ≡ Pixels (Create image width height)
unfolding effect_of asked
effect_create_image areas words state image width height = refl

pub effect_delete_image : (areas : Areas) (words : List (ℕ × ℕ)) (state : State) (image : ℕ) → effect_of areas (DeleteImage image) words state ≡ Pixels (Delete image)
unfolding effect_of asked
effect_delete_image areas words state image = refl

pub effect_clear_rect : (areas : Areas) (words : List (ℕ × ℕ)) (state : State) (image x y w h texel : ℕ) → effect_of areas (ClearRect image x y w h texel) words state ≡ Pixels (Clear image (rectangle x y w h) texel)
unfolding effect_of asked
effect_clear_rect areas words state image x y w h texel = refl

pub effect_copy_rect : (areas : Areas) (words : List (ℕ × ℕ)) (state : State) (source sx sy target dx dy w h : ℕ) → effect_of areas (CopyRect source sx sy target dx dy w h) words state ≡ Pixels (Copy source sx sy target dx dy w h)
unfolding effect_of asked
effect_copy_rect areas words state source sx sy target dx dy w h = refl

pub effect_upload_rect : (areas : Areas) (words : List (ℕ × ℕ)) (state : State) (image x y w h format memory offset : ℕ) → effect_of areas (UploadRect image x y w h format memory offset) words state ≡ Pixels (uploaded image (rectangle x y w h) format (transfer_bytes words offset (w * h * texel_bytes format)))
unfolding effect_of asked
effect_upload_rect areas words state image x y w h format memory offset = refl

pub effect_upload_bucket : (areas : Areas) (words : List (ℕ × ℕ)) (state : State) (image x y w h format bucket : ℕ) → effect_of areas (UploadBucket image x y w h format bucket) words state ≡ Pixels (uploaded image (rectangle x y w h) format (part (bytes_in state.buckets bucket) 0 (w * h * texel_bytes format)))
unfolding effect_of asked
effect_upload_bucket areas words state image x y w h format bucket = refl

pub effect_upload_buffer : (areas : Areas) (words : List (ℕ × ℕ)) (state : State) (image x y w h format buffer offset : ℕ) → effect_of areas (UploadBuffer image x y w h format buffer offset) words state ≡ Pixels (uploaded image (rectangle x y w h) format (part (bytes_in state.buffers buffer) offset (w * h * texel_bytes format)))
unfolding effect_of asked
effect_upload_buffer areas words state image x y w h format buffer offset = refl

pub effect_create_buffer : (areas : Areas) (words : List (ℕ × ℕ)) (state : State) (buffer size : ℕ) → effect_of areas (CreateBuffer buffer size) words state ≡ Nothing
unfolding effect_of asked
effect_create_buffer areas words state buffer size = refl

pub effect_delete_buffer : (areas : Areas) (words : List (ℕ × ℕ)) (state : State) (buffer : ℕ) → effect_of areas (DeleteBuffer buffer) words state ≡ Nothing
unfolding effect_of asked
effect_delete_buffer areas words state buffer = refl

pub effect_buffer_data : (areas : Areas) (words : List (ℕ × ℕ)) (state : State) (buffer offset size memory memory_offset : ℕ) → effect_of areas (BufferData buffer offset size memory memory_offset) words state ≡ Nothing
unfolding effect_of asked
effect_buffer_data areas words state buffer offset size memory memory_offset = refl

-- ---- what each command leaves, but for the entries and the words

pub acted_noop : (areas : Areas) (words : List (ℕ × ℕ)) (state : State) → acted areas Noop words state ≡ state
unfolding acted
acted_noop areas words state = refl

pub acted_set_token : (areas : Areas) (words : List (ℕ × ℕ)) (state : State) (token : ℕ) → acted areas (SetToken token) words state ≡ record state { token = token }
unfolding acted
acted_set_token areas words state token = refl

pub acted_set_bucket_size : (areas : Areas) (words : List (ℕ × ℕ)) (state : State) (bucket size : ℕ) → acted areas (SetBucketSize bucket size) words state ≡ record state { buckets = sized state.buckets bucket size }
unfolding acted
acted_set_bucket_size areas words state bucket size = refl

pub acted_set_bucket_data : (areas : Areas) (words : List (ℕ × ℕ)) (state : State) (bucket offset size memory memory_offset : ℕ) → acted areas (SetBucketData bucket offset size memory memory_offset) words state ≡ record state { buckets = written_over state.buckets bucket offset (transfer_bytes words memory_offset size) }
unfolding acted
acted_set_bucket_data areas words state bucket offset size memory memory_offset = refl

pub acted_set_bucket_data_immediate : (areas : Areas) (words : List (ℕ × ℕ)) (state : State) (bucket offset size : ℕ) → acted areas (SetBucketDataImmediate bucket offset size) words state ≡ record state { buckets = written_over state.buckets bucket offset (immediate_bytes words size) }
unfolding acted
acted_set_bucket_data_immediate areas words state bucket offset size = refl

pub acted_get_bucket_start : (areas : Areas) (words : List (ℕ × ℕ)) (state : State) (bucket result_memory result_offset data_size data_memory data_offset : ℕ) → acted areas (GetBucketStart bucket result_memory result_offset data_size data_memory data_offset) words state ≡ record state { results = after_writes (start_written areas (bytes_in state.buckets bucket) result_memory result_offset data_size data_memory data_offset) state.results }
unfolding acted
acted_get_bucket_start areas words state bucket result_memory result_offset data_size data_memory data_offset = refl

pub acted_get_bucket_data : (areas : Areas) (words : List (ℕ × ℕ)) (state : State) (bucket offset size memory memory_offset : ℕ) → acted areas (GetBucketData bucket offset size memory memory_offset) words state ≡ record state { results = after_writes (words_written (place_at areas memory memory_offset) (part (bytes_in state.buckets bucket) offset size)) state.results }
unfolding acted
acted_get_bucket_data areas words state bucket offset size memory memory_offset = refl

pub acted_insert_fence : (areas : Areas) (words : List (ℕ × ℕ)) (state : State) (low high : ℕ) → acted areas (InsertFence low high) words state ≡ record state { release = max state.release (joined low high) }
unfolding acted
acted_insert_fence areas words state low high = refl

pub acted_wait_token : (areas : Areas) (words : List (ℕ × ℕ)) (state : State) (stream low high : ℕ) → acted areas (WaitToken stream low high) words state ≡ state
unfolding acted
acted_wait_token areas words state stream low high = refl

pub acted_wait_sync_token : (areas : Areas) (words : List (ℕ × ℕ)) (state : State) (namespace id_low id_high low high : ℕ) → acted areas (WaitSyncToken namespace id_low id_high low high) words state ≡ state
unfolding acted
acted_wait_sync_token areas words state namespace id_low id_high low high = refl

pub acted_create_image : (areas : Areas) (words : List (ℕ × ℕ)) (state : State) (image width height : ℕ) → acted areas (CreateImage image width height) words state ≡ state
unfolding acted
acted_create_image areas words state image width height = refl

pub acted_delete_image : (areas : Areas) (words : List (ℕ × ℕ)) (state : State) (image : ℕ) → acted areas (DeleteImage image) words state ≡ state
unfolding acted
acted_delete_image areas words state image = refl

pub acted_clear_rect : (areas : Areas) (words : List (ℕ × ℕ)) (state : State) (image x y w h texel : ℕ) → acted areas (ClearRect image x y w h texel) words state ≡ state
unfolding acted
acted_clear_rect areas words state image x y w h texel = refl

pub acted_copy_rect : (areas : Areas) (words : List (ℕ × ℕ)) (state : State) (source sx sy target dx dy w h : ℕ) → acted areas (CopyRect source sx sy target dx dy w h) words state ≡ state
unfolding acted
acted_copy_rect areas words state source sx sy target dx dy w h = refl

pub acted_upload_rect : (areas : Areas) (words : List (ℕ × ℕ)) (state : State) (image x y w h format memory offset : ℕ) → acted areas (UploadRect image x y w h format memory offset) words state ≡ state
unfolding acted
acted_upload_rect areas words state image x y w h format memory offset = refl

pub acted_upload_bucket : (areas : Areas) (words : List (ℕ × ℕ)) (state : State) (image x y w h format bucket : ℕ) → acted areas (UploadBucket image x y w h format bucket) words state ≡ state
unfolding acted
acted_upload_bucket areas words state image x y w h format bucket = refl

pub acted_upload_buffer : (areas : Areas) (words : List (ℕ × ℕ)) (state : State) (image x y w h format buffer offset : ℕ) → acted areas (UploadBuffer image x y w h format buffer offset) words state ≡ state
unfolding acted
acted_upload_buffer areas words state image x y w h format buffer offset = refl

pub acted_create_buffer : (areas : Areas) (words : List (ℕ × ℕ)) (state : State) (buffer size : ℕ) → acted areas (CreateBuffer buffer size) words state ≡ record state { buffers = with_block state.buffers buffer (zeros size) }
unfolding acted
acted_create_buffer areas words state buffer size = refl

pub acted_delete_buffer : (areas : Areas) (words : List (ℕ × ℕ)) (state : State) (buffer : ℕ) → acted areas (DeleteBuffer buffer) words state ≡ record state { buffers = without_block state.buffers buffer }
unfolding acted
acted_delete_buffer areas words state buffer = refl

pub acted_buffer_data : (areas : Areas) (words : List (ℕ × ℕ)) (state : State) (buffer offset size memory memory_offset : ℕ) → acted areas (BufferData buffer offset size memory memory_offset) words state ≡ record state { buffers = written_over state.buffers buffer offset (transfer_bytes words memory_offset size) }
unfolding acted
acted_buffer_data areas words state buffer offset size memory memory_offset = refl
