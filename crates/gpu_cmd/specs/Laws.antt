-- Laws of copied commands.
use Rattle.std.specs.Prelude.{◌≡◌, ℕ, ◌+◌, ◌<◌, ◌≤◌, List, [], ◌∷◌, ◌++◌, length, Ok, Err, slice_index}
use Rattle.std.specs.List.{All}
use Rattle.std.specs.List.Sorted.{IsStrictlyIncreasing}
use Rattle.gpu_word.specs.Header.{size_of}
use Rattle.gpu_cmd.specs.declared.command.Command.{Command}
use Rattle.gpu_cmd.specs.declared.error.CmdError.{CmdError}
use Rattle.gpu_cmd.specs.declared.error.CmdError.TheVariants.{OutOfBounds}
use Rattle.gpu_cmd.specs.declared.facts.StreamFacts.{StreamFacts}
use Rattle.gpu_cmd.specs.declared.facts.TheConstants.{MOST_FETCHED}
use Rattle.gpu_cmd.specs.declared.shape.Shape.{Shape}
use Rattle.gpu_cmd.specs.declared.decoded.Decoded.{Decoded}
use Rattle.gpu_cmd.specs.Lawful.{IsLawfulFacts, places_of}
use Rattle.gpu_cmd.specs.Checks.{headed, decoded}
use Rattle.gpu_cmd.specs.Copied.{value_in, copied, fetched_places, fetched, judged, words_at, places_listed, IsCopy}

-- a put out of range: no word is fetched, and the verdict is OutOfBounds whatever a list says
abbrev pub PutOutOfRange : Type 0
PutOutOfRange = (words : List (ℕ × ℕ)) (facts : StreamFacts) → facts.areas.ring ≤ facts.put → (copied words facts ≡ Err OutOfBounds) × (fetched_places words facts ≡ [])

-- a header that is refused is fetched alone
abbrev pub HeaderRefused : Type 0
HeaderRefused = (facts : StreamFacts) (entry : ℕ) (error : CmdError) → facts.put < facts.areas.ring → headed entry facts ≡ Err error → IsCopy (words_at facts.get (entry ∷ [])) facts (Err error)

-- a command that is refused by its entries has all its ring words fetched
abbrev pub EntriesRefused : Type 0
EntriesRefused = (facts : StreamFacts) (shape : Shape) (values : List ℕ) (error : CmdError) → facts.put < facts.areas.ring → headed (slice_index values 0) facts ≡ Ok shape → length values ≡ shape.ring_words → decoded values facts ≡ Err error → IsCopy (words_at facts.get values) facts (Err error)

-- any other command has its ring words fetched, and then its transfer words
abbrev pub CommandCopied : Type 0
CommandCopied = (facts : StreamFacts) (shape : Shape) (values : List ℕ) (found : Decoded) (more : List ℕ) → facts.put < facts.areas.ring → headed (slice_index values 0) facts ≡ Ok shape → length values ≡ shape.ring_words → decoded values facts ≡ Ok found → length more ≡ found.count → IsCopy (words_at facts.get values ++ words_at found.from more) facts (Ok found.command)

-- words that must be fetched, and that a memory has, are those that are fetched from this memory
abbrev pub WordsOfMemory : Type 0
WordsOfMemory = (memory : ℕ → ℕ) (words : List (ℕ × ℕ)) (facts : StreamFacts) → places_listed words ≡ fetched_places words facts → All (λ word. word.1 ≡ memory word.0) words → words ≡ fetched memory facts

-- what is fetched from a memory must be fetched, and its verdict is that on the memory's values
abbrev pub MemoryCopied : Type 0
MemoryCopied = (memory : ℕ → ℕ) (facts : StreamFacts) → IsCopy (fetched memory facts) facts (judged memory facts)

-- the places to be fetched rise, so none stands among them twice
abbrev pub PlacesRise : Type 0
PlacesRise = (words : List (ℕ × ℕ)) (facts : StreamFacts) → IsLawfulFacts facts → IsStrictlyIncreasing (fetched_places words facts)

-- each is a place of the stream's ring or of its transfer memories
abbrev pub PlacesAreThere : Type 0
PlacesAreThere = (words : List (ℕ × ℕ)) (facts : StreamFacts) → IsLawfulFacts facts → All (λ place. place < places_of facts.areas) (fetched_places words facts)

-- a command that is accepted has an entry, ends in the ring, and leaves the stream within its quota
pub record LeavesRoom (words : List (ℕ × ℕ)) (facts : StreamFacts) : Type 0 where
  pub some : 1 ≤ size_of (value_in words facts.get)
  pub ends : facts.get + size_of (value_in words facts.get) ≤ facts.areas.ring
  pub quota : facts.fetched + length words ≤ MOST_FETCHED

-- each accepted command leaves room: its facts with get and the words fetched moved on are lawful again
abbrev pub AcceptedLeavesRoom : Type 0
AcceptedLeavesRoom = (words : List (ℕ × ℕ)) (facts : StreamFacts) (command : Command) → IsLawfulFacts facts → IsCopy words facts (Ok command) → LeavesRoom words facts
