-- The verdict on a copied command, and the places that are fetched for it.
use Rattle.std.specs.Prelude.{◌≡◌, ℕ, ◌+◌, ◌==◌, nat_lt, List, [], ◌∷◌, ◌++◌, map, Result, Ok, Err, if◌then◌else◌}
use Rattle.std.specs.List.{range_with_len}
use Rattle.gpu_cmd.specs.declared.error.CmdError.{CmdError}
use Rattle.gpu_cmd.specs.declared.error.CmdError.TheVariants.{OutOfBounds}
use Rattle.gpu_cmd.specs.declared.command.Command.{Command}
use Rattle.gpu_cmd.specs.declared.facts.StreamFacts.{StreamFacts}
use Rattle.gpu_cmd.specs.declared.shape.Shape.{Shape}
use Rattle.gpu_cmd.specs.declared.decoded.Decoded.{Decoded}
use Rattle.gpu_word.specs.Outcome.{◌>>=◌, unless}
use Rattle.gpu_cmd.specs.Checks.{headed, decoded}

-- the value that a list has at a place, or 0 where it has none
abbrev pub value_in : List (ℕ × ℕ) → ℕ → ℕ
value_in [] place = 0
value_in (word ∷ words) place = if word.0 == place then word.1 else value_in words place

-- the ring places of a command
abbrev pub ring_places : StreamFacts → Shape → List ℕ
ring_places facts shape = range_with_len facts.get shape.ring_words

-- the verdict where each place has the value that a memory has there
unfoldable pub judged : (ℕ → ℕ) → StreamFacts → Result Command CmdError
judged memory facts = do
  _ ← unless (nat_lt facts.put facts.areas.ring) OutOfBounds
  shape ← headed (memory facts.get) facts
  found ← decoded (map memory (ring_places facts shape)) facts
  Ok found.command

-- the transfer places that follow the ring places: none where one of the checks 6 to 10 fails
abbrev pub places_decoded : Result Decoded CmdError → List ℕ
places_decoded (Err error) = []
places_decoded (Ok found) = range_with_len found.from found.count

-- the places from the header on: the header's alone where one of the checks 1 to 5 fails
abbrev pub places_headed : (ℕ → ℕ) → StreamFacts → Result Shape CmdError → List ℕ
places_headed memory facts (Err error) = facts.get ∷ []
places_headed memory facts (Ok shape) = ring_places facts shape ++ places_decoded (decoded (map memory (ring_places facts shape)) facts)

-- the places read where each place has the value that a memory has there: none for a put out of range
unfoldable pub places_read : (ℕ → ℕ) → StreamFacts → List ℕ
places_read memory facts = if nat_lt facts.put facts.areas.ring then places_headed memory facts (headed (memory facts.get) facts) else []

-- the verdict on the words of a list
unfoldable pub copied : List (ℕ × ℕ) → StreamFacts → Result Command CmdError
copied words facts = judged (value_in words) facts

-- the places to be fetched, by the words of a list
unfoldable pub fetched_places : List (ℕ × ℕ) → StreamFacts → List ℕ
fetched_places words facts = places_read (value_in words) facts

-- the words of a step as a memory has them
unfoldable pub fetched : (ℕ → ℕ) → StreamFacts → List (ℕ × ℕ)
fetched memory facts = map (λ place. (place, memory place)) (places_read memory facts)

-- values at places that follow one another
abbrev pub words_at : ℕ → List ℕ → List (ℕ × ℕ)
words_at place [] = []
words_at place (value ∷ values) = (place, value) ∷ words_at (place + 1) values

-- the places of words
abbrev pub places_listed : List (ℕ × ℕ) → List ℕ
places_listed words = map (λ word. word.0) words

-- the words are those to be fetched, each once and in order, and this answer is the verdict on them
pub record IsCopy (words : List (ℕ × ℕ)) (facts : StreamFacts) (answer : Result Command CmdError) : Type 0 where
  pub places : places_listed words ≡ fetched_places words facts
  pub verdict : copied words facts ≡ answer
