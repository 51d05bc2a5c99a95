-- The table of commands.
use Rattle.std.specs.Prelude.{ℕ, Bool, true, false, List, [], ◌∷◌, Option, Some, None, length, ◌==◌, nat_le, if◌then◌else◌, slice_index, find, take}
use Rattle.gpu_word.specs.Header.{id_of, size_of}
use Rattle.gpu_cmd.specs.declared.command.Command.{Command}
use Rattle.gpu_cmd.specs.declared.command.Command.TheVariants.{Noop, SetToken, SetBucketSize, SetBucketData, SetBucketDataImmediate, GetBucketStart, GetBucketData, InsertFence, WaitToken, CreateImage, DeleteImage, ClearRect, CopyRect, UploadRect, UploadBucket, CreateBuffer, DeleteBuffer, BufferData, UploadBuffer, WaitSyncToken}

-- a command's id, its number of entries with the header, whether more entries are allowed, and the command of its
-- arguments by their places after the header, from 1 on
pub record Row : Type 0 where
  pub id : ℕ
  pub entries : ℕ
  pub more : Bool
  pub command : (ℕ → ℕ) → Command

-- a command of a given number of entries
abbrev pub exactly : ℕ → ℕ → ((ℕ → ℕ) → Command) → Row
exactly id entries command = record { id = id; entries = entries; more = false; command = command }

-- a command of a given number of entries or more
abbrev pub at_least : ℕ → ℕ → ((ℕ → ℕ) → Command) → Row
at_least id entries command = record { id = id; entries = entries; more = true; command = command }

-- every command
abbrev pub table : List Row
table =
    at_least 0 1 (λ a. Noop)
    ∷ exactly 1 2 (λ a. SetToken (a 1))
    ∷ exactly 2 3 (λ a. SetBucketSize (a 1) (a 2))
    ∷ exactly 3 6 (λ a. SetBucketData (a 1) (a 2) (a 3) (a 4) (a 5))
    ∷ at_least 4 4 (λ a. SetBucketDataImmediate (a 1) (a 2) (a 3))
    ∷ exactly 5 7 (λ a. GetBucketStart (a 1) (a 2) (a 3) (a 4) (a 5) (a 6))
    ∷ exactly 6 6 (λ a. GetBucketData (a 1) (a 2) (a 3) (a 4) (a 5))
    ∷ exactly 256 3 (λ a. InsertFence (a 1) (a 2))
    ∷ exactly 257 4 (λ a. WaitToken (a 1) (a 2) (a 3))
    ∷ exactly 258 4 (λ a. CreateImage (a 1) (a 2) (a 3))
    ∷ exactly 259 2 (λ a. DeleteImage (a 1))
    ∷ exactly 260 7 (λ a. ClearRect (a 1) (a 2) (a 3) (a 4) (a 5) (a 6))
    ∷ exactly 261 9 (λ a. CopyRect (a 1) (a 2) (a 3) (a 4) (a 5) (a 6) (a 7) (a 8))
    ∷ exactly 262 9 (λ a. UploadRect (a 1) (a 2) (a 3) (a 4) (a 5) (a 6) (a 7) (a 8))
    ∷ exactly 263 8 (λ a. UploadBucket (a 1) (a 2) (a 3) (a 4) (a 5) (a 6) (a 7))
    ∷ exactly 264 3 (λ a. CreateBuffer (a 1) (a 2))
    ∷ exactly 265 2 (λ a. DeleteBuffer (a 1))
    ∷ exactly 266 6 (λ a. BufferData (a 1) (a 2) (a 3) (a 4) (a 5))
    ∷ exactly 267 9 (λ a. UploadBuffer (a 1) (a 2) (a 3) (a 4) (a 5) (a 6) (a 7) (a 8))
    ∷ exactly 268 6 (λ a. WaitSyncToken (a 1) (a 2) (a 3) (a 4) (a 5))
    ∷ []

-- the row of an id
unfoldable pub row_of : ℕ → Option Row
row_of id = find (λ row. row.id == id) table

-- the row allows a command of a given number of entries
abbrev pub fits : Row → ℕ → Bool
fits row size = if row.more then nat_le row.entries size else row.entries == size

-- the words of a command that are fetched from the ring: of a Noop its header alone
abbrev pub ring_words_of : ℕ → ℕ → ℕ
ring_words_of id size = if id == 0 then 1 else size

-- the argument at a place after the header
abbrev pub argument : List ℕ → ℕ → ℕ
argument words place = slice_index words place

-- the ring words that words begin with: as many as the header says
abbrev pub ring_of : List ℕ → List ℕ
ring_of words = take (ring_words_of (id_of (slice_index words 0)) (size_of (slice_index words 0))) words

-- the command of ring words by a row, where it allows this number
abbrev pub command_by_row : Option Row → List ℕ → Option Command
command_by_row None ring = None
command_by_row (Some row) ring = if fits row (length ring) then Some (row.command (argument ring)) else None

-- the command that words say by the header and the arguments that they begin with
abbrev pub command_said : List ℕ → Option Command
command_said words = command_by_row (row_of (id_of (slice_index words 0))) (ring_of words)
