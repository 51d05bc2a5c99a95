-- Blocks of bytes by their numbers: the buckets or the buffers of a stream.
use Rattle.std.specs.Prelude.{ℕ, ◌+◌, ◌==◌, nat_le, Bool, false, List, [], ◌++◌, length, take, drop, replicate, slice_get, slice_set, Option, Some, None, unwrap_or, if◌then◌else◌}
use Rattle.std.specs.Option.{option_map_or}
use Rattle.gpu_cmd.specs.declared.checks.TheConstants.{SLOTS}

-- each number's bytes, where there is such a block
abbrev pub Blocks : Type 0
Blocks = List (Option (List ℕ))

-- sixteen numbers without a block
abbrev pub no_blocks : Blocks
no_blocks = replicate SLOTS None

-- the bytes of a number's block, where it is there
abbrev pub block_of : Blocks → ℕ → Option (List ℕ)
block_of blocks number = unwrap_or (slice_get blocks number) None

-- the bytes of a number's block, and none where it is missing
abbrev pub bytes_in : Blocks → ℕ → List ℕ
bytes_in blocks number = unwrap_or (block_of blocks number) []

-- a given number of bytes from an offset on
abbrev pub part : List ℕ → ℕ → ℕ → List ℕ
part bytes offset count = take count (drop offset bytes)

-- the block is there and has a given number of bytes from an offset on
abbrev pub has_range : Blocks → ℕ → ℕ → ℕ → Bool
has_range blocks number offset count = option_map_or (λ bytes. nat_le (offset + count) (length bytes)) (block_of blocks number) false

-- a given number of zero bytes
abbrev pub zeros : ℕ → List ℕ
zeros size = replicate size 0

-- the blocks with these bytes at a number
abbrev pub with_block : Blocks → ℕ → List ℕ → Blocks
with_block blocks number bytes = slice_set blocks number (Some bytes)

-- the blocks without one at a number
abbrev pub without_block : Blocks → ℕ → Blocks
without_block blocks number = slice_set blocks number None

-- a block of the size keeps its bytes
abbrev pub kept_or_zeros : Option (List ℕ) → ℕ → List ℕ
kept_or_zeros None size = zeros size
kept_or_zeros (Some bytes) size = if length bytes == size then bytes else zeros size

-- the block has the size: its bytes where it had that size already, and else zeros
abbrev pub sized : Blocks → ℕ → ℕ → Blocks
sized blocks number size = with_block blocks number (kept_or_zeros (block_of blocks number) size)

-- bytes with others written over them from an offset on
abbrev pub overwritten : List ℕ → ℕ → List ℕ → List ℕ
overwritten old offset bytes = take offset old ++ bytes ++ drop (offset + length bytes) old

-- the blocks with bytes written into one of them
abbrev pub written_over : Blocks → ℕ → ℕ → List ℕ → Blocks
written_over blocks number offset bytes = with_block blocks number (overwritten (bytes_in blocks number) offset bytes)
