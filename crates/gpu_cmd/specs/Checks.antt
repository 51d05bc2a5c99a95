-- Checks 1 to 10 on a command, in their order: the first that fails decides.
use Rattle.std.specs.Prelude.{ℕ, ◌+◌, ◌-◌, ◌*◌, ◌%◌, Bool, true, false, ◌&&◌, ◌==◌, nat_le, nat_lt, List, length, Option, is_some, Result, Ok, slice_index}
use Rattle.std.specs.Option.{option_map_or}
use Rattle.gpu_word.specs.Header.{size_of, id_of}
use Rattle.gpu_word.specs.Formats.{format_of}
use Rattle.gpu_cmd.specs.declared.error.CmdError.{CmdError}
use Rattle.gpu_cmd.specs.declared.error.CmdError.TheVariants.{InvalidSize, OutOfBounds, UnknownCommand, InvalidArguments, Quota}
use Rattle.gpu_cmd.specs.declared.command.Command.{Command}
use Rattle.gpu_cmd.specs.declared.areas.Areas.{Areas}
use Rattle.gpu_cmd.specs.declared.areas.Span.{Span}
use Rattle.gpu_cmd.specs.declared.facts.StreamFacts.{StreamFacts}
use Rattle.gpu_cmd.specs.declared.facts.TheConstants.{MOST_FETCHED}
use Rattle.gpu_cmd.specs.declared.range.Range.{Range}
use Rattle.gpu_cmd.specs.declared.shape.Shape.{Shape}
use Rattle.gpu_cmd.specs.declared.decoded.Decoded.{Decoded}
use Rattle.gpu_cmd.specs.declared.checks.TheConstants.{SLOTS, MOST_SLOT_BYTES}
use Rattle.gpu_word.specs.Outcome.{◌>>=◌, unless, or_error}
use Rattle.gpu_cmd.specs.Table.{row_of, fits, ring_words_of, argument}
use Rattle.gpu_cmd.specs.Spans.{span_at}
use Rattle.gpu_cmd.specs.Lawful.{room}
use Rattle.gpu_cmd.specs.Ranges.{named, transfer_places}

-- this number of words is no more than a stream may fetch
abbrev pub is_within_quota : ℕ → Bool
is_within_quota words = nat_le words MOST_FETCHED

-- checks 1 to 5, of the header alone
unfoldable pub headed : ℕ → StreamFacts → Result Shape CmdError
headed entry facts = do
  _ ← unless (nat_le 1 (size_of entry)) InvalidSize  -- 1
  _ ← unless (nat_le (size_of entry) (room facts)) OutOfBounds  -- 2
  row ← or_error UnknownCommand (row_of (id_of entry))  -- 3
  _ ← unless (fits row (size_of entry)) InvalidArguments  -- 4
  _ ← unless (is_within_quota (facts.fetched + ring_words_of (id_of entry) (size_of entry))) Quota  -- 5
  Ok (record { id = id_of entry; size = size_of entry; ring_words = ring_words_of (id_of entry) (size_of entry) })

-- check 6: a format has a number from 1 to 4
abbrev pub has_format : Command → Bool
has_format command = option_map_or (λ number. is_some (format_of number)) (named command).format true

-- check 7: there are 16 buckets and 16 buffers, of at most 262,144 bytes each
abbrev pub has_slot : Command → Bool
has_slot command = option_map_or (λ slot. nat_lt slot SLOTS) (named command).slot true && option_map_or (λ size. nat_le size MOST_SLOT_BYTES) (named command).made_size true

-- check 8: the data entries, which follow three arguments, hold all bytes that are read from them
abbrev pub has_data : ℕ → Command → Bool
has_data entries command = option_map_or (λ size. nat_le size (4 * (entries - 4))) (named command).immediate_size true

-- check 8: result memories are written from the start of a word on
abbrev pub is_aligned : Range → Bool
is_aligned range = range.offset % 4 == 0

-- check 8: so are all that the command writes
abbrev pub has_aligned_results : Command → Bool
has_aligned_results command = option_map_or is_aligned (named command).size_range true && option_map_or is_aligned (named command).data_range true

-- checks 6 to 8, which have one error
abbrev pub has_arguments : ℕ → Command → Bool
has_arguments entries command = has_format command && (has_slot command && (has_data entries command && has_aligned_results command))

-- check 9: a range lies in a memory that is declared
abbrev pub lies_in : List (Option Span) → Range → Bool
lies_in spans range = option_map_or (λ (span : Span). nat_le (range.offset + range.bytes) (4 * span.words)) (span_at spans range.memory) false

-- check 9: each range of the command does, those that are read among the transfer memories and those that are written
-- among the result memories
abbrev pub has_memories : Areas → Command → Bool
has_memories areas command = option_map_or (lies_in areas.memories) (named command).transfer_range true && (option_map_or (lies_in areas.results) (named command).size_range true && option_map_or (lies_in areas.results) (named command).data_range true)

-- checks 6 to 10, of a command with a given number of ring words
unfoldable pub checked : ℕ → Command → StreamFacts → Result Decoded CmdError
checked ring_words command facts = do
  _ ← unless (has_arguments ring_words command) InvalidArguments  -- 6 to 8
  _ ← unless (has_memories facts.areas command) OutOfBounds  -- 9
  _ ← unless (is_within_quota (facts.fetched + ring_words + (transfer_places facts.areas command).count)) Quota  -- 10
  Ok (record { command = command; from = (transfer_places facts.areas command).from; count = (transfer_places facts.areas command).count })

-- checks 6 to 10, of all ring words of a command; its id is known by check 3
unfoldable pub decoded : List ℕ → StreamFacts → Result Decoded CmdError
decoded words facts = do
  row ← or_error UnknownCommand (row_of (id_of (slice_index words 0)))
  checked (length words) (row.command (argument words)) facts
