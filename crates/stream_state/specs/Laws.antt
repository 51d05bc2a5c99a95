-- Laws of the state of a stream.
use Rattle.std.specs.Prelude.{◌≡◌, ℕ, ◌<◌, Ok, List, [], ◌∷◌, ◌++◌, map}
use Rattle.std.specs.List.{All}
use Rattle.std.specs.List.Sorted.{IsStrictlyIncreasing}
use Rattle.gpu_word.specs.Header.{size_of}
use Rattle.gpu_cmd.specs.declared.areas.Areas.{Areas}
use Rattle.gpu_cmd.specs.Lawful.{IsLawfulAreas}
use Rattle.gpu_cmd.specs.Spans.{words_in}
use Rattle.stream_state.specs.Writes.{Writes, left_by_writes}
use Rattle.stream_state.specs.State.{State, IsBounded, result_of}
use Rattle.stream_state.specs.Verdict.{checked_state}
use Rattle.stream_state.specs.Steps.{header_in, command_in, writes, stepped, Step, stream_of}
use Rattle.stream_state.specs.Accepted.{IsAccepted}

-- the words of a step make a command that all checks accept in this state
pub record IsTaken (areas : Areas) (words : List (ℕ × ℕ)) (state : State) : Type 0 where
  pub accepted : IsAccepted areas words state (command_in words) (size_of (header_in words))
  pub check : checked_state (command_in words) state ≡ Ok tt

-- each of the steps was taken in the state that those before it left; the newest stands first
abbrev pub AreTaken : Areas → List Step → Type 0
AreTaken areas [] = Unit {0}
AreTaken areas (step ∷ steps) = IsTaken areas step.words (stream_of areas steps) × AreTaken areas steps

-- a step that is taken keeps the bounds
abbrev pub StepIsBounded : Type 0
StepIsBounded = (areas : Areas) (words : List (ℕ × ℕ)) (state : State) → IsLawfulAreas areas → IsBounded state → IsTaken areas words state → IsBounded (stepped areas words state)

-- a step that is taken consumes an entry and fetches a word at least
pub record MovesOn (areas : Areas) (words : List (ℕ × ℕ)) (state : State) : Type 0 where
  pub entries : state.entries < (stepped areas words state).entries
  pub fetched : state.fetched < (stepped areas words state).fetched

-- each step does so
abbrev pub StepsMoveOn : Type 0
StepsMoveOn = (areas : Areas) (words : List (ℕ × ℕ)) (state : State) → IsLawfulAreas areas → IsBounded state → IsTaken areas words state → MovesOn areas words state

-- a stream stays within its quota of words, and each of its words stands for a ring of entries at most
abbrev pub StatesAreBounded : Type 0
StatesAreBounded = (areas : Areas) (steps : List Step) → IsLawfulAreas areas → AreTaken areas steps → IsBounded (stream_of areas steps)

-- all that steps wrote to result places, the oldest first; of the steps the newest stands first
unfoldable pub all_written : Areas → List Step → Writes
all_written areas [] = []
all_written areas (step ∷ steps) = all_written areas steps ++ writes areas step.words (stream_of areas steps)

-- a result place has the last value that a step wrote there, and 0 where none did
abbrev pub ResultsAreLastWritten : Type 0
ResultsAreLastWritten = (areas : Areas) (steps : List Step) (place : ℕ) → result_of (stream_of areas steps) place ≡ left_by_writes (all_written areas steps) place 0

-- a step writes its places in rising order, so each once
abbrev pub WritesRise : Type 0
WritesRise = (areas : Areas) (words : List (ℕ × ℕ)) (state : State) → IsStrictlyIncreasing (map (λ write. write.0) (writes areas words state))

-- each place that a step writes is one of the stream's result places
abbrev pub WritesAreThere : Type 0
WritesAreThere = (areas : Areas) (words : List (ℕ × ℕ)) (state : State) → IsLawfulAreas areas → IsBounded state → IsTaken areas words state → All (λ write. write.0 < words_in areas.results) (writes areas words state)
