-- Laws of verdicts.
use Rattle.std.specs.Prelude.{◌≡◌, ◌≢◌, ℕ, List, Ok, Err}
use Rattle.gpu_cmd.specs.declared.areas.Areas.{Areas}
use Rattle.gpu_cmd.specs.declared.command.Command.{Command}
use Rattle.gpu_cmd.specs.declared.error.CmdError.{CmdError}
use Rattle.gpu_cmd.specs.declared.facts.StreamFacts.{StreamFacts}
use Rattle.gpu_cmd.specs.Lawful.{IsLawfulAreas}
use Rattle.gpu_cmd.specs.Copied.{copied, fetched_places, places_listed}
use Rattle.stream_state.specs.State.{State, IsBounded, facts_of}
use Rattle.stream_state.specs.Verdict.{checked_state, verdict}
use Rattle.stream_state.specs.Steps.{command_in}
use Rattle.stream_state.specs.Laws.{IsTaken}

-- an error of the copy is the verdict
abbrev pub CopyRefuses : Type 0
CopyRefuses = (words : List (ℕ × ℕ)) (facts : StreamFacts) (state : State) (error : CmdError) → copied words facts ≡ Err error → verdict words facts state ≡ Err error

-- an error of checks 11 and 12 on the copied command is the verdict
abbrev pub StateRefuses : Type 0
StateRefuses = (words : List (ℕ × ℕ)) (facts : StreamFacts) (state : State) (command : Command) (error : CmdError) → copied words facts ≡ Ok command → checked_state command state ≡ Err error → verdict words facts state ≡ Err error

-- a copied command that passes checks 11 and 12 is the verdict
abbrev pub CommandPasses : Type 0
CommandPasses = (words : List (ℕ × ℕ)) (facts : StreamFacts) (state : State) (command : Command) → copied words facts ≡ Ok command → checked_state command state ≡ Ok tt → verdict words facts state ≡ Ok command

-- a verdict that is a command is the copied command, which passes checks 11 and 12
abbrev pub VerdictPassed : Type 0
VerdictPassed = (words : List (ℕ × ℕ)) (facts : StreamFacts) (state : State) (command : Command) → verdict words facts state ≡ Ok command → (copied words facts ≡ Ok command) × (checked_state command state ≡ Ok tt)

-- fetched words whose verdict is a command make this command, and a step takes them
abbrev pub VerdictTaken : Type 0
VerdictTaken = (areas : Areas) (put : ℕ) (words : List (ℕ × ℕ)) (state : State) (command : Command) → IsLawfulAreas areas → IsBounded state
    → (facts_of areas put state).get ≢ put → places_listed words ≡ fetched_places words (facts_of areas put state) → verdict words (facts_of areas put state) state ≡ Ok command
    → (command_in words ≡ command) × IsTaken areas words state
