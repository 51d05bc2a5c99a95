-- What a command does to the state of its stream, and what it asks of the rest of the service.
use Rattle.std.specs.Prelude.{ℕ, ◌+◌, ◌*◌, ◌/◌, ◌%◌, ◌^◌, max, Bool, true, false, not, Option, Some, None, is_some, option_map, unwrap_or, List, [], ◌∷◌, length, take, drop, slice_index}
use Rattle.std.specs.Option.{option_map_or}
use Rattle.gpu_word.specs.Header.{size_of, id_of}
use Rattle.gpu_word.specs.Formats.{format_of}
pub use Rattle.gpu_word.specs.Bytes.{values_of}
use Rattle.gpu_word.specs.Bytes.{bytes_of}
use Rattle.gpu_cmd.specs.declared.command.Command.{Command}
use Rattle.gpu_cmd.specs.declared.command.Command.TheVariants.{Noop, SetToken, SetBucketSize, SetBucketData, SetBucketDataImmediate, GetBucketStart, GetBucketData, InsertFence, WaitToken, CreateImage, DeleteImage, ClearRect, CopyRect, UploadRect, UploadBucket, CreateBuffer, DeleteBuffer, BufferData, UploadBuffer, WaitSyncToken}
use Rattle.gpu_cmd.specs.declared.areas.Areas.{Areas}
use Rattle.gpu_cmd.specs.declared.areas.Span.{Span}
use Rattle.gpu_cmd.specs.Spans.{span_at}
use Rattle.gpu_cmd.specs.Table.{row_of, ring_words_of, argument}
use Rattle.gpu_cmd.specs.Ranges.{texel_bytes}
use Rattle.gpu_store.specs.declared.op.Op.{Op}
use Rattle.gpu_store.specs.declared.op.Op.TheVariants.{Create, Delete, Clear, Copy, Upload}
use Rattle.gpu_store.specs.declared.op.Answer.{Answer}
use Rattle.gpu_store.specs.declared.rect.Rect.{Rect}
use Rattle.gpu_store.specs.Picture.{rectangle}
use Rattle.gpu_store.specs.Conversion.{texels_of}
use Rattle.stream_state.specs.declared.effect.Effect.{Effect}
use Rattle.stream_state.specs.declared.effect.Effect.TheVariants.{Nothing, Token, Release, Wait, WaitName, Pixels, Results}
use Rattle.stream_state.specs.Blocks.{Blocks, block_of, bytes_in, part, has_range, zeros, with_block, without_block, sized, written_over}
use Rattle.stream_state.specs.Writes.{Writes, words_written, with_write, after_writes}
use Rattle.stream_state.specs.State.{State, first_state, noted}

-- ---- the words of a step: its ring words, the header first, and then its transfer words

-- the header of a command
abbrev pub header_in : List (ℕ × ℕ) → ℕ
header_in words = slice_index (values_of words) 0

-- how many of the words are ring words
abbrev pub ring_words_in : List (ℕ × ℕ) → ℕ
ring_words_in words = ring_words_of (id_of (header_in words)) (size_of (header_in words))

-- the command of the ring words; no step has an id without a command
unfoldable pub command_in : List (ℕ × ℕ) → Command
command_in words = option_map_or (λ row. row.command (argument (take (ring_words_in words) (values_of words)))) (row_of (id_of (header_in words))) Noop

-- a given number of bytes of the transfer words, which begin with the word that the offset lies in
unfoldable pub transfer_bytes : List (ℕ × ℕ) → ℕ → ℕ → List ℕ
transfer_bytes words offset count = take count (drop (offset % 4) (bytes_of (drop (ring_words_in words) (values_of words))))

-- the first bytes of the data entries, which follow the header and three arguments
unfoldable pub immediate_bytes : List (ℕ × ℕ) → ℕ → List ℕ
immediate_bytes words count = take count (bytes_of (drop 4 (values_of words)))

-- ---- what a command finds in its words and in the result memories

-- a number of 64 bits of its two halves
abbrev pub joined : ℕ → ℕ → ℕ
joined low high = low + high * 2 ^ 32

-- the texels of bytes, by the number of their format
abbrev pub texels_in : ℕ → List ℕ → List ℕ
texels_in number bytes = option_map_or (λ format. texels_of format bytes) (format_of number) []

-- the result place at an offset into a result memory
abbrev pub place_at : Areas → ℕ → ℕ → ℕ
place_at areas memory offset = option_map_or (λ (span : Span). span.base + offset / 4) (span_at areas.results memory) 0

-- the bucket's size as one word, and then its first bytes; where both fall on one place, the bytes' word is written
abbrev pub start_written : Areas → List ℕ → ℕ → ℕ → ℕ → ℕ → ℕ → Writes
start_written areas bytes result_memory result_offset data_size data_memory data_offset =
    with_write (place_at areas result_memory result_offset, length bytes) (words_written (place_at areas data_memory data_offset) (take data_size bytes))

-- the upload of packed bytes
abbrev pub uploaded : ℕ → Rect → ℕ → List ℕ → Op
uploaded image rect format bytes = Upload image rect (texels_in format bytes)

-- ---- what a command does

-- what a command does
pub record Work : Type 0 where
  pub found : State → Bool  -- its bucket is there, and so is its buffer; a buffer that it makes is not there
  pub bytes : State → Bool  -- the bucket or the buffer has the bytes that it writes or reads
  pub memory : Bool  -- its step may need memory for the state of its stream
  pub token : Option ℕ  -- it sets a token
  pub release : Option ℕ  -- it releases
  pub wait : Option Effect  -- it waits
  pub made : Option Op  -- it makes an image
  pub drawn : Option Op  -- it takes an image away, or fills or copies a rectangle
  pub transfer_upload : List (ℕ × ℕ) → Option Op  -- it uploads texels of the transfer words
  pub block_upload : State → Option Op  -- it uploads texels of a bucket or of a buffer
  pub writes : Areas → State → Option Writes  -- it writes to result places
  pub buckets : List (ℕ × ℕ) → Blocks → Blocks  -- the buckets that it leaves
  pub buffers : List (ℕ × ℕ) → Blocks → Blocks  -- the buffers that it leaves

-- nothing
abbrev pub no_work : Work
no_work = record { found = λ state. true; bytes = λ state. true; memory = false; token = None; release = None; wait = None; made = None; drawn = None; transfer_upload = λ words. None; block_upload = λ state. None; writes = λ areas state. None; buckets = λ words buckets. buckets; buffers = λ words buffers. buffers }

-- a bucket that is there, and bytes of it that are there
abbrev pub bucket_work : ℕ → Work
bucket_work bucket = record no_work { found = λ state. is_some (block_of state.buckets bucket); memory = true }

abbrev pub bucket_range_work : ℕ → ℕ → ℕ → Work
bucket_range_work bucket offset count = record (bucket_work bucket) { bytes = λ state. has_range state.buckets bucket offset count }

-- a buffer that is there, and bytes of it that are there
abbrev pub buffer_work : ℕ → Work
buffer_work buffer = record no_work { found = λ state. is_some (block_of state.buffers buffer) }

abbrev pub buffer_range_work : ℕ → ℕ → ℕ → Work
buffer_range_work buffer offset count = record (buffer_work buffer) { bytes = λ state. has_range state.buffers buffer offset count; memory = true }

-- what each command does; an upload from a bucket reads its first bytes
abbrev pub work : Command → Work
work Noop = no_work
work (SetToken token) = record no_work { token = Some token }
work (SetBucketSize bucket size) = record no_work { memory = true; buckets = λ words buckets. sized buckets bucket size }
work (SetBucketData bucket offset size memory memory_offset) = record (bucket_range_work bucket offset size) { buckets = λ words buckets. written_over buckets bucket offset (transfer_bytes words memory_offset size) }
work (SetBucketDataImmediate bucket offset size) = record (bucket_range_work bucket offset size) { buckets = λ words buckets. written_over buckets bucket offset (immediate_bytes words size) }
work (GetBucketStart bucket result_memory result_offset data_size data_memory data_offset) =
    record (bucket_work bucket) { writes = λ areas state. Some (start_written areas (bytes_in state.buckets bucket) result_memory result_offset data_size data_memory data_offset) }
work (GetBucketData bucket offset size memory memory_offset) =
    record (bucket_range_work bucket offset size) { writes = λ areas state. Some (words_written (place_at areas memory memory_offset) (part (bytes_in state.buckets bucket) offset size)) }
work (InsertFence low high) = record no_work { release = Some (joined low high) }
work (WaitToken stream low high) = record no_work { wait = Some (Wait stream (joined low high)) }
work (CreateImage image width height) = record no_work { made = Some (Create image width height) }
work (DeleteImage image) = record no_work { drawn = Some (Delete image) }
work (ClearRect image x y w h texel) = record no_work { drawn = Some (Clear image (rectangle x y w h) texel) }
work (CopyRect source sx sy target dx dy w h) = record no_work { drawn = Some (Copy source sx sy target dx dy w h) }
work (UploadRect image x y w h format memory offset) =
    record no_work { memory = true; transfer_upload = λ words. Some (uploaded image (rectangle x y w h) format (transfer_bytes words offset (w * h * texel_bytes format))) }
work (UploadBucket image x y w h format bucket) =
    record (bucket_range_work bucket 0 (w * h * texel_bytes format)) { block_upload = λ state. Some (uploaded image (rectangle x y w h) format (part (bytes_in state.buckets bucket) 0 (w * h * texel_bytes format))) }
work (CreateBuffer buffer size) = record no_work { found = λ state. not (is_some (block_of state.buffers buffer)); memory = true; buffers = λ words buffers. with_block buffers buffer (zeros size) }
work (DeleteBuffer buffer) = record (buffer_work buffer) { buffers = λ words buffers. without_block buffers buffer }
work (BufferData buffer offset size memory memory_offset) = record (buffer_range_work buffer offset size) { buffers = λ words buffers. written_over buffers buffer offset (transfer_bytes words memory_offset size) }
work (UploadBuffer image x y w h format buffer offset) =
    record (buffer_range_work buffer offset (w * h * texel_bytes format)) { block_upload = λ state. Some (uploaded image (rectangle x y w h) format (part (bytes_in state.buffers buffer) offset (w * h * texel_bytes format))) }
work (WaitSyncToken namespace id_low id_high low high) = record no_work { wait = Some (WaitName (record { namespace = namespace; id = joined id_low id_high }) (joined low high)) }

-- ---- what a command asks for

-- the first that there is
abbrev pub either : {A : Type 0} → Option A → Option A → Option A
either (Some x) other = Some x
either None other = other

-- what a command writes to result places
abbrev pub writes_of : Areas → Command → State → Option Writes
writes_of areas command state = (work command).writes areas state

-- what a command asks of the client and of other streams
abbrev pub told : Command → Option Effect
told command = either (option_map Token (work command).token) (either (option_map Release (work command).release) (work command).wait)

-- the image operation of a command without texels of its own
abbrev pub plain_op : Command → Option Op
plain_op command = either (work command).made (work command).drawn

-- the image operation of a command that uploads texels: of the transfer words, or of a bucket or a buffer
abbrev pub upload_op : Command → List (ℕ × ℕ) → State → Option Op
upload_op command words state = either ((work command).transfer_upload words) ((work command).block_upload state)

-- what a command that writes no results asks of the rest of the service
unfoldable pub asked : Command → List (ℕ × ℕ) → State → Effect
asked command words state = unwrap_or (either (told command) (option_map Pixels (either (plain_op command) (upload_op command words state)))) Nothing

-- what a command with these words asks of the rest of the service
unfoldable pub effect_of : Areas → Command → List (ℕ × ℕ) → State → Effect
effect_of areas command words state = option_map_or Results (writes_of areas command state) (asked command words state)

-- ---- what a command does to the state

-- the last token
abbrev pub token_after : Command → ℕ → ℕ
token_after command before = unwrap_or (work command).token before

-- the release count, which never falls
abbrev pub release_after : Command → ℕ → ℕ
release_after command before = option_map_or (max before) (work command).release before

-- the buckets
abbrev pub buckets_after : Command → List (ℕ × ℕ) → Blocks → Blocks
buckets_after command words buckets = (work command).buckets words buckets

-- the buffers
abbrev pub buffers_after : Command → List (ℕ × ℕ) → Blocks → Blocks
buffers_after command words buffers = (work command).buffers words buffers

-- the values of the result places
abbrev pub results_after : Areas → Command → State → List ℕ
results_after areas command state = option_map_or (λ writes. after_writes writes state.results) (writes_of areas command state) state.results

-- the state that a command with these words leaves, but for the entries and the words, which are counted apart
unfoldable pub acted : Areas → Command → List (ℕ × ℕ) → State → State
acted areas command words state = record state {
  token = token_after command state.token;
  release = release_after command state.release;
  buckets = buckets_after command words state.buckets;
  buffers = buffers_after command words state.buffers;
  results = results_after areas command state;
}

-- the state with a command of this size and a given number of words counted
abbrev pub moved_on : ℕ → ℕ → State → State
moved_on size words state = record state { entries = state.entries + size; fetched = state.fetched + words }

-- the state after a step, by its words alone
unfoldable pub stepped : Areas → List (ℕ × ℕ) → State → State
stepped areas words state = moved_on (size_of (header_in words)) (length words) (acted areas (command_in words) words state)

-- the effect of a step, by its words alone
unfoldable pub effect : Areas → List (ℕ × ℕ) → State → Effect
effect areas words state = effect_of areas (command_in words) words state

-- what a step writes to result places, by its words alone
unfoldable pub writes : Areas → List (ℕ × ℕ) → State → Writes
writes areas words state = unwrap_or (writes_of areas (command_in words) state) []

-- ---- the steps of a stream

-- a step: its words, and the answer of its image operation, or Done where it has none
pub record Step : Type 0 where
  pub words : List (ℕ × ℕ)
  pub answer : Answer

-- the state after steps, the newest first
unfoldable pub stream_of : Areas → List Step → State
stream_of areas [] = first_state
stream_of areas (step ∷ steps) = noted step.answer (stepped areas step.words (stream_of areas steps))
