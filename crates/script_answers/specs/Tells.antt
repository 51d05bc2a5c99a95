-- What the program tells of its source, and writes to its sink.
use Rattle.std.specs.Prelude.{◌≡◌, ℕ, ◌<◌, ◌≤◌, ◌⊎◌, Bool, true, false, List, [], length, Option, Some}
use Rattle.std.specs.Io.KnownBytes.{Appends}
use Rattle.gpu_io.specs.Whole.{ReadsAll}
use Rattle.run_output.specs.Pieces.{AppendsFront}
use Rattle.script_answers.specs.declared.command.Command.{Command}
use Rattle.script_answers.specs.declared.status.Status.{Status}
use Rattle.script_answers.specs.declared.status.Status.TheVariants as status
use Rattle.script_answers.specs.Statuses.{tells_all}
use Rattle.script_answers.specs.Says.{reads, most_bytes, Says}

-- the input of a command: all that its source has left, within a limit, and nothing where it does not read
abbrev pub Takes : ℕ → Bool → Option (List ℕ) → Option (List ℕ) → List ℕ → Type 0
Takes most true left left_then input = ReadsAll left left_then input × (length input ≤ most)
Takes most false left left_then input = input ≡ []

-- the words are a command, its input was taken from the source, and it says this of it
pub record Tells (words : Option Command) (base : ℕ) (left left_then : Option (List ℕ))
    (ending : Status) (text : List ℕ) : Type 0 where
  pub command : Command
  pub asked : words ≡ Some command
  pub input : List ℕ
  pub taken : Takes (most_bytes words) (reads words) left left_then input
  pub said : Says command base input ending text

-- the text that it says of its input was written
pub record HasTold (words : Option Command) (base : ℕ) (left left_then : Option (List ℕ))
    (ending : Status) (written written_then : Option (List ℕ)) : Type 0 where
  pub text : List ℕ
  pub told : Tells words base left left_then ending text
  pub appended : Appends written written_then text

-- a prefix was written of a text that it says of its input with a status that writes
pub record HasBegun (words : Option Command) (base : ℕ) (left left_then : Option (List ℕ))
    (written written_then : Option (List ℕ)) : Type 0 where
  pub ending : Status
  pub writing : tells_all ending ≡ true
  pub text : List ℕ
  pub told : Tells words base left left_then ending text
  pub begun : AppendsFront written written_then text

-- the input that a command will take, where that is known
abbrev pub held : Bool → Option (List ℕ) → Option (List ℕ)
held true left = left
held false left = Some []

-- what a command may answer to an input where no fault rises: what it says, that the input is too long, or out of
-- memory
abbrev pub IsAnswer : Command → ℕ → List ℕ → Status → Type 0
IsAnswer command base input ending =
    ((length input ≤ most_bytes (Some command)) × (text : List ℕ) × Says command base input ending text)
    ⊎ ((ending ≡ status.TooLong) × (most_bytes (Some command) < length input))
    ⊎ (ending ≡ status.NoMemory)
