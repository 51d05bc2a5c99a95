-- The numbers of errors.
use Rattle.std.specs.Prelude.{ℕ}
use Rattle.gpu_cmd.specs.declared.error.CmdError.{CmdError}
use Rattle.gpu_cmd.specs.declared.error.CmdError.TheVariants.{InvalidSize, OutOfBounds, UnknownCommand, InvalidArguments, Quota}

-- the number of an error in a journal
abbrev pub code_of : CmdError → ℕ
code_of InvalidSize = 1
code_of OutOfBounds = 2
code_of UnknownCommand = 3
code_of InvalidArguments = 4
code_of Quota = 6
