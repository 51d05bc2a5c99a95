-- What is said, or what is wrong with it, and what a function returns for that.
use Rattle.std.specs.Prelude.{◌≡◌, ℕ, Result, Ok, Err}
pub use Rattle.gpu_word.specs.Outcome.{◌>>=◌, unless, or_error}
use Rattle.script_lines.specs.declared.fault.Kind.{Kind}
use Rattle.script_lines.specs.declared.fault.LineError.{LineError}
use Rattle.script_lines.specs.declared.fault.LineError.TheVariants as errors
use Rattle.script_lines.specs.declared.fault.ScriptFault.{ScriptFault}
use Rattle.script_lines.specs.declared.fault.ScriptFault.TheVariants as faults

-- the kind stands with the line's number
abbrev pub at_line : {A : Type 0} → ℕ → Result A Kind → Result A (ℕ × Kind)
at_line number (Ok x) = Ok x
at_line number (Err kind) = Err (number, kind)

-- the error is the kind that is said, unless memory ran out
abbrev pub Fails : {Y : Type 0} → LineError → Result Y Kind → Type 0
Fails (errors.Memory refusal) said = Unit {0}
Fails (errors.Refused kind) said = said ≡ Err kind

-- what was returned, as view shows it, is what is said
abbrev pub Gives : {X Y : Type 0} → (X → Y) → Result X LineError → Result Y Kind → Type 0
Gives view (Ok x) said = said ≡ Ok (view x)
Gives view (Err e) said = Fails e said

-- the fault is the line and the kind that are said, unless memory ran out
abbrev pub FailsAt : {Y : Type 0} → ScriptFault → Result Y (ℕ × Kind) → Type 0
FailsAt (faults.Memory refusal) said = Unit {0}
FailsAt (faults.Refused line kind) said = said ≡ Err (line, kind)

-- what was returned for a whole script, as view shows it, is what is said
abbrev pub GivesScript : {X Y : Type 0} → (X → Y) → Result X ScriptFault → Result Y (ℕ × Kind) → Type 0
GivesScript view (Ok x) said = said ≡ Ok (view x)
GivesScript view (Err e) said = FailsAt e said
