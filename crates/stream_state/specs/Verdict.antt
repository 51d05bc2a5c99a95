-- Checks 11 and 12, which rest on the state of the stream, and the verdict on a copied command.
use Rattle.std.specs.Prelude.{ℕ, Bool, true, List, Result, Ok}
use Rattle.std.specs.Option.{option_map_or}
use Rattle.gpu_cmd.specs.declared.error.CmdError.{CmdError}
use Rattle.gpu_cmd.specs.declared.error.CmdError.TheVariants.{InvalidArguments}
use Rattle.gpu_cmd.specs.declared.command.Command.{Command}
use Rattle.gpu_cmd.specs.declared.facts.StreamFacts.{StreamFacts}
use Rattle.gpu_word.specs.Outcome.{◌>>=◌, unless}
use Rattle.gpu_cmd.specs.Ranges.{named}
use Rattle.gpu_cmd.specs.Copied.{copied}
use Rattle.stream_state.specs.State.{State}
use Rattle.stream_state.specs.Steps.{work}

-- check 11: the bucket is there for each command that has one and does not make it, and so is the buffer; a buffer that
-- a command makes is not there
abbrev pub has_block : Command → State → Bool
has_block command state = (work command).found state

-- check 12: the bucket or the buffer has the bytes that the command writes or reads
abbrev pub has_bytes : Command → State → Bool
has_bytes command state = (work command).bytes state

-- check 12: it has the bytes of all texels, where texels are uploaded
abbrev pub has_texels : Command → State → Bool
has_texels command state = option_map_or (λ format. has_bytes command state) (named command).format true

-- checks 11 and 12, in their order
unfoldable pub checked_state : Command → State → Result (Unit {0}) CmdError
checked_state command state = do
  _ ← unless (has_block command state) InvalidArguments  -- 11
  unless (has_bytes command state) InvalidArguments  -- 12

-- the verdict on copied words: checks 1 to 10 on the words, and then 11 and 12
unfoldable pub verdict : List (ℕ × ℕ) → StreamFacts → State → Result Command CmdError
verdict words facts state = do
  command ← copied words facts
  _ ← checked_state command state
  Ok command
