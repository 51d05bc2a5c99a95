-- What is fetched of a command.
use Rattle.std.specs.Prelude.{◌≡◌, ◌≢◌, ℕ, ◌≤◌, ◌⊎◌, List, [], ◌∷◌, ◌++◌, length, drop, Result, IsOkAnd}
use Rattle.gpu_cmd.specs.declared.command.Command.{Command}
use Rattle.gpu_cmd.specs.declared.error.CmdError.{CmdError}
use Rattle.gpu_cmd.specs.declared.facts.StreamFacts.{StreamFacts}
use Rattle.gpu_cmd.specs.Lawful.{IsLawfulFacts}
use Rattle.gpu_cmd.specs.Checks.{headed}
use Rattle.gpu_cmd.specs.Copied.{fetched_places, places_listed, ring_places, value_in, words_at, IsCopy}
use Rattle.gpu_fetch.specs.Side.{SideData, Fetches, SideFetches}

-- the words fetched, the verdict on them, and the facts that it rests on
pub record FetchedData : Type 0 where
  pub words : List (ℕ × ℕ)
  pub verdict : Result Command CmdError
  pub facts : StreamFacts

-- something was left of the flush, the words are those to be fetched, each once and in order, and the verdict is on them
pub record IsFetched (found : FetchedData) : Type 0 where
  pub lawful : IsLawfulFacts found.facts
  pub more : found.facts.get ≢ found.facts.put
  pub copy : IsCopy found.words found.facts found.verdict

-- what a list has after all that it had
abbrev pub items_since : List (ℕ × ℕ) → List (ℕ × ℕ) → List (ℕ × ℕ)
items_since list longer = drop (length list) longer

-- the side fetched the words of one command, which were appended to a list: those to be fetched, each once and in order, and the
-- verdict is on them
pub record FetchesCommand (Shows : ℕ × ℕ → Type 0) (old new : SideData) (facts : StreamFacts) (list longer : List (ℕ × ℕ)) (verdict : Result Command CmdError) : Type 0 where
  pub adds : longer ≡ list ++ items_since list longer
  pub fetches : SideFetches Shows old new (items_since list longer)
  pub copy : IsCopy (items_since list longer) facts verdict

-- the side fetched the first of the places that must be fetched by the words that it had, in order
pub record FetchesSome (old new : SideData) (facts : StreamFacts) : Type 0 where
  pub words : List (ℕ × ℕ)
  pub rest : List ℕ
  pub fetches : Fetches old new words
  pub first : fetched_places words facts ≡ places_listed words ++ rest

-- the side fetched a given number of values of places that follow one another, and they were appended to a list
pub record FetchesRow (Shows : ℕ × ℕ → Type 0) (old new : SideData) (place count : ℕ) (list longer : List (ℕ × ℕ)) : Type 0 where
  pub values : List ℕ
  pub all : length values ≡ count
  pub fetches : SideFetches Shows old new (words_at place values)
  pub appended : longer ≡ list ++ words_at place values

-- the side fetched at most a given number of values of places that follow one another
pub record FetchesRowInPart (old new : SideData) (place count : ℕ) : Type 0 where
  pub values : List ℕ
  pub some : length values ≤ count
  pub fetches : Fetches old new (words_at place values)

-- words are none, the header of a command, or all its ring words
abbrev pub IsRows : StreamFacts → List (ℕ × ℕ) → Type 0
IsRows facts words = (words ≡ []) ⊎ ((places_listed words ≡ facts.get ∷ []) ⊎ IsOkAnd (headed (value_in words facts.get) facts) (λ shape. places_listed words ≡ ring_places facts shape))

-- the side fetched such words
pub record FetchesRows (old new : SideData) (facts : StreamFacts) : Type 0 where
  pub words : List (ℕ × ℕ)
  pub fetches : Fetches old new words
  pub rows : IsRows facts words
