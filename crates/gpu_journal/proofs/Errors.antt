-- Errors with the same number are the same.
use Rattle.std.proofs.Common.{◌≡◌, ℕ, refl, sym, ap, ◌∙◌}
use Rattle.std.specs.Prelude.{◌==◌, if◌then◌else◌}
use Rattle.gpu_cmd.specs.declared.error.CmdError.{CmdError}
use Rattle.gpu_cmd.specs.declared.error.CmdError.TheVariants.{InvalidSize, OutOfBounds, UnknownCommand, InvalidArguments, Quota}
use Rattle.gpu_cmd.specs.Errors.{code_of}

-- the error of a number
abbrev error_of : ℕ → CmdError
error_of code = if code == 1 then InvalidSize else (if code == 2 then OutOfBounds else (if code == 3 then UnknownCommand else (if code == 4 then InvalidArguments else Quota)))

error_back : (error : CmdError) → error_of (code_of error) ≡ error
error_back InvalidSize = refl
error_back OutOfBounds = refl
error_back UnknownCommand = refl
error_back InvalidArguments = refl
error_back Quota = refl

pub same_error : (a b : CmdError) → code_of a ≡ code_of b → a ≡ b
same_error a b e = sym (error_back a) ∙ ap error_of e ∙ error_back b
