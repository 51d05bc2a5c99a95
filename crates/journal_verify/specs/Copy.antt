-- The verdict of checks 1 to 10 on words that were fetched.
use Rattle.std.specs.Prelude.{ℕ, ◌+◌, ◌==◌, ◌&&◌, Bool, true, List, [], ◌∷◌, length, take, drop, nat_le, nat_lt, Option, None, Result, Ok, Err, if◌then◌else◌}
use Rattle.gpu_cmd.specs.declared.error.CmdError.{CmdError}
use Rattle.gpu_cmd.specs.declared.command.Command.{Command}
use Rattle.gpu_cmd.specs.declared.facts.StreamFacts.{StreamFacts}
use Rattle.gpu_cmd.specs.declared.error.CmdError.TheVariants.{OutOfBounds}
use Rattle.gpu_cmd.specs.declared.shape.Shape.{Shape}
use Rattle.gpu_cmd.specs.declared.decoded.Decoded.{Decoded}
use Rattle.gpu_cmd.specs.Checks.{headed, decoded}
use Rattle.stream_state.specs.Steps.{values_of}
use Rattle.gpu_word.specs.Outcome.{when}

-- the places of the words follow one another from this one on
abbrev pub is_row : ℕ → List (ℕ × ℕ) → Bool
is_row from [] = true
is_row from (word ∷ words) = word.0 == from && is_row (from + 1) words

-- after the ring words: the transfer words of a command, or none
abbrev pub transfer_read : List (ℕ × ℕ) → Result Decoded CmdError → Option (Result Command CmdError)
transfer_read more (Err error) = when (length more == 0) (Err error)
transfer_read more (Ok found) = when (length more == found.count && is_row found.from more) (Ok found.command)

-- the ring words of a header that passed, and what is after them; or the header alone
abbrev pub entries_read : List (ℕ × ℕ) → StreamFacts → Result Shape CmdError → Option (Result Command CmdError)
entries_read words facts (Err error) = when (length words == 1) (Err error)
entries_read words facts (Ok shape) =
    if nat_le shape.ring_words (length words) && is_row facts.get (take shape.ring_words words) then transfer_read (drop shape.ring_words words) (decoded (values_of (take shape.ring_words words)) facts) else None

-- the header, which stands at get
abbrev pub header_read : List (ℕ × ℕ) → StreamFacts → Option (Result Command CmdError)
header_read [] facts = None
header_read (word ∷ words) facts = if word.0 == facts.get then entries_read (word ∷ words) facts (headed word.1 facts) else None

-- the verdict of checks 1 to 10 on words, as they are read from the first on, where they are those to be fetched
unfoldable pub copy_read : List (ℕ × ℕ) → StreamFacts → Option (Result Command CmdError)
copy_read words facts = if nat_lt facts.put facts.areas.ring then header_read words facts else when (length words == 0) (Err OutOfBounds)
