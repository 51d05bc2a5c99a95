-- Batches: commands that a run fetches one after the other without the lock, to be committed under one.
use Rattle.std.specs.Prelude.{◌≡◌, ℕ, ◌+◌, ◌-◌, ◌==◌, ◌<◌, ◌≤◌, ◌⊎◌, ◌||◌, Bool, true, false, is_some, List, [], ◌∷◌, ◌++◌, length, map, flat_map, take, drop, slice_get, Result, Ok, Err, IfSome, if◌then◌else◌}
use Rattle.std.specs.List.{All}
use Rattle.gpu_word.specs.Header.{size_of}
use Rattle.gpu_cmd.specs.declared.command.Command.{Command}
use Rattle.gpu_cmd.specs.declared.error.CmdError.{CmdError}
use Rattle.gpu_cmd.specs.declared.facts.StreamFacts.{StreamFacts}
use Rattle.gpu_cmd.specs.Ranges.{named}
use Rattle.gpu_fetch.specs.Side.{SideData, Fetches}
use Rattle.gpu_fetch.specs.Fetched.{FetchedData, IsFetched, FetchesSome}
use Rattle.stream_state.specs.Steps.{header_in, told}
use Rattle.house_core.specs.Answers.{further}

-- ---- one command after the other

-- the facts of the command after one that has these words
abbrev pub facts_after : StreamFacts → List (ℕ × ℕ) → StreamFacts
facts_after facts words = record facts {
  get = further facts.areas.ring facts.get (size_of (header_in words));
  fetched = facts.fetched + length words;
}

-- the facts after commands that have these words, one after the other
abbrev pub facts_behind : StreamFacts → List (List (ℕ × ℕ)) → StreamFacts
facts_behind facts [] = facts
facts_behind facts (words ∷ more) = facts_behind (facts_after facts words) more

-- the words of each member
abbrev pub member_words : List FetchedData → List (List (ℕ × ℕ))
member_words members = map (λ (member : FetchedData). member.words) members

-- the words of all members, in order
abbrev pub batch_words : List FetchedData → List (ℕ × ℕ)
batch_words members = flat_map (λ (member : FetchedData). member.words) members

-- the first member is of these facts, and each further one of the facts that follow from the member before
abbrev pub AreChained : StreamFacts → List FetchedData → Type 0
AreChained facts [] = Unit {0}
AreChained facts (member ∷ more) = (member.facts ≡ facts) × AreChained (facts_after facts member.words) more

-- the words are the next that a side has fetched beyond those of the facts; there are none after them where nothing is left of the
-- flush after their command
pub record AreNext (facts : StreamFacts) (list words : List (ℕ × ℕ)) : Type 0 where
  pub rest : List (ℕ × ℕ)
  pub next : drop facts.fetched list ≡ words ++ rest
  pub ended : (facts_after facts words).get ≡ facts.put → rest ≡ []

-- ---- where a batch ends

-- the step of the command is told to a client or to another stream, or may wait: it asks that, or it writes results
abbrev pub is_heard : Command → Bool
is_heard command = is_some (told command) || (is_some (named command).size_range || is_some (named command).data_range)

-- a batch ends at an error, at a command that is heard, and where nothing is left of the flush after the command
abbrev pub ends_by : Result Command CmdError → StreamFacts → Bool
ends_by (Err error) behind = true
ends_by (Ok command) behind = if is_heard command then true else (behind.get == behind.put)

-- a batch ends at this member
abbrev pub is_last : FetchedData → Bool
is_last member = ends_by member.verdict (facts_after member.facts member.words)

-- how many members a batch has at most
abbrev pub most_members : ℕ
most_members = 64

-- a batch ends exactly at the first member that is a last one or the 64th: it has one, it ends at none before its last member, and
-- at that it does
pub record EndsExactly (members : List FetchedData) : Type 0 where
  pub some : 0 < length members
  pub few : length members ≤ most_members
  pub before : All (λ member. is_last member ≡ false) (take (length members - 1) members)
  pub last : IfSome (slice_get members (length members - 1)) (λ member. (is_last member ≡ true) ⊎ (length members ≡ most_members))

-- ---- how it is fetched

-- the side fetched the words of some commands at which no batch ends, one after the other, and then the first of the places that
-- must be fetched of the next one
pub record FetchesInPart (old new : SideData) (facts : StreamFacts) : Type 0 where
  pub members : List FetchedData
  pub between : SideData
  pub few : length members < most_members
  pub chained : AreChained facts members
  pub copies : All IsFetched members
  pub goes_on : All (λ member. is_last member ≡ false) members
  pub whole : Fetches old between (batch_words members)
  pub part : FetchesSome between new (facts_behind facts (member_words members))
