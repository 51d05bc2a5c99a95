-- What a command names: a format, a bucket or a buffer, a size, and ranges of memories.
use Rattle.std.specs.Prelude.{ℕ, ◌+◌, ◌-◌, ◌*◌, ◌/◌, List, Option, Some, None, ◌==◌, if◌then◌else◌}
use Rattle.std.specs.Option.{option_map_or}
use Rattle.gpu_word.specs.Formats.{format_of, format_bytes}
use Rattle.gpu_cmd.specs.declared.command.Command.{Command}
use Rattle.gpu_cmd.specs.declared.command.Command.TheVariants.{Noop, SetToken, SetBucketSize, SetBucketData, SetBucketDataImmediate, GetBucketStart, GetBucketData, InsertFence, WaitToken, CreateImage, DeleteImage, ClearRect, CopyRect, UploadRect, UploadBucket, CreateBuffer, DeleteBuffer, BufferData, UploadBuffer, WaitSyncToken}
use Rattle.gpu_cmd.specs.declared.areas.Areas.{Areas}
use Rattle.gpu_cmd.specs.declared.areas.Span.{Span}
use Rattle.gpu_cmd.specs.declared.range.Range.{Range}
use Rattle.gpu_cmd.specs.declared.range.Places.{Places}
use Rattle.gpu_cmd.specs.Spans.{span_at}

-- the bytes of a texel, by the number of its format
abbrev pub texel_bytes : ℕ → ℕ
texel_bytes number = option_map_or format_bytes (format_of number) 0

-- what a command names: the number of the format that texels are read in, the bucket or the buffer, the size that this is
-- made with, the bytes that are read from the data entries, and ranges of memories. Those are the bytes that are read
-- from a transfer memory, and in result memories the word for a bucket's size and the bytes for a bucket's bytes
pub record Named : Type 0 where
  pub format : Option ℕ
  pub slot : Option ℕ
  pub made_size : Option ℕ
  pub immediate_size : Option ℕ
  pub transfer_range : Option Range
  pub size_range : Option Range
  pub data_range : Option Range

-- none of these
abbrev pub none_named : Named
none_named = record { format = None; slot = None; made_size = None; immediate_size = None; transfer_range = None; size_range = None; data_range = None }

-- bytes of a memory from an offset on
abbrev pub bytes_at : ℕ → ℕ → ℕ → Option Range
bytes_at memory offset bytes = Some (record { memory = memory; offset = offset; bytes = bytes })

-- what each command names; a start without data looks at no data memory
abbrev pub named : Command → Named
named Noop = none_named
named (SetToken token) = none_named
named (SetBucketSize bucket size) = record none_named { slot = Some bucket; made_size = Some size }
named (SetBucketData bucket offset size memory memory_offset) = record none_named { slot = Some bucket; transfer_range = bytes_at memory memory_offset size }
named (SetBucketDataImmediate bucket offset size) = record none_named { slot = Some bucket; immediate_size = Some size }
named (GetBucketStart bucket result_memory result_offset data_size data_memory data_offset) =
    record none_named { slot = Some bucket; size_range = bytes_at result_memory result_offset 4; data_range = if data_size == 0 then None else bytes_at data_memory data_offset data_size }
named (GetBucketData bucket offset size memory memory_offset) = record none_named { slot = Some bucket; data_range = bytes_at memory memory_offset size }
named (InsertFence low high) = none_named
named (WaitToken stream low high) = none_named
named (CreateImage image width height) = none_named
named (DeleteImage image) = none_named
named (ClearRect image x y w h texel) = none_named
named (CopyRect source sx sy target dx dy w h) = none_named
named (UploadRect image x y w h format memory memory_offset) = record none_named { format = Some format; transfer_range = bytes_at memory memory_offset (w * h * texel_bytes format) }
named (UploadBucket image x y w h format bucket) = record none_named { format = Some format; slot = Some bucket }
named (CreateBuffer buffer size) = record none_named { slot = Some buffer; made_size = Some size }
named (DeleteBuffer buffer) = record none_named { slot = Some buffer }
named (BufferData buffer offset size memory memory_offset) = record none_named { slot = Some buffer; transfer_range = bytes_at memory memory_offset size }
named (UploadBuffer image x y w h format buffer offset) = record none_named { format = Some format; slot = Some buffer }
named (WaitSyncToken namespace id_low id_high low high) = none_named

-- the words that bytes from an offset on touch: offset div 4 to (offset + bytes - 1) div 4, and none for no byte
abbrev pub places_from : Span → Range → Places
places_from span range =
    if range.bytes == 0 then record { from = 0; count = 0 }
    else record { from = span.base + range.offset / 4; count = (range.offset + range.bytes - 1) / 4 + 1 - range.offset / 4 }

-- the places of a range of a transfer memory
abbrev pub places_in : List (Option Span) → Range → Places
places_in spans range = option_map_or (λ span. places_from span range) (span_at spans range.memory) (record { from = 0; count = 0 })

-- the transfer places of a command
abbrev pub transfer_places : Areas → Command → Places
transfer_places areas command = option_map_or (places_in areas.memories) (named command).transfer_range (record { from = 0; count = 0 })
