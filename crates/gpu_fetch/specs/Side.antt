-- What contracts see of the service's side of one stream, whatever its words are.
use Rattle.std.specs.Prelude.{◌≡◌, ℕ, ◌+◌, max, List, [], ◌∷◌, ◌++◌, Option}
use Rattle.std.specs.List.{All}
use Rattle.std.specs.Option.{option_map}
use Rattle.atomic_table.specs.Seated.{TableId}
use Rattle.gpu_word.specs.Results.{Written}
use Rattle.gpu_plan.specs.Plans.{PlanData}
use Rattle.gpu_plan.specs.Passes.{bound}
use Rattle.gpu_plan.specs.MayHold.{MayHold}

-- the plan of the stream, the words fetched in order, the flushes published as finished, the greatest token published, and
-- how many actions the client had done once the latest flush met was made: its place and one more, or 0 for none
pub record SideData : Type 0 where
  pub plan : PlanData
  pub fetched : List (ℕ × ℕ)
  pub finished : ℕ
  pub greatest : ℕ
  pub met : ℕ

-- the name of no table, which a side has whose words are its client's alone
abbrev pub no_table : TableId
no_table = record { words = 0; slots = 0; views_name = 0; atom = 0; block = 0; offset = 0; slot_names = [] }

-- a side that has done nothing
abbrev pub fresh_side : PlanData → SideData
fresh_side plan = record { plan = plan; fetched = []; finished = 0; greatest = 0; met = 0 }

-- how far the client can be, by the side's own numbers
abbrev pub side_reach : SideData → ℕ
side_reach side = bound side.plan.actions side.finished (side.greatest ∷ [])

-- the value is one that the client may have put there since the latest flush met
abbrev pub MayFetch : SideData → ℕ × ℕ → Type 0
MayFetch side word = MayHold side.plan.actions side.met (side_reach side) word.0 word.1

-- the side with words fetched
abbrev pub with_words : SideData → List (ℕ × ℕ) → SideData
with_words side words = record side { fetched = side.fetched ++ words }

-- the side with one flush met
abbrev pub with_met : SideData → ℕ → SideData
with_met side mark = record side { met = max side.met mark }

-- the side with one more flush published as finished
abbrev pub finish_published : SideData → SideData
finish_published side = record side { finished = side.finished + 1 }

-- the side with a token published
abbrev pub token_published : SideData → ℕ → SideData
token_published side token = record side { greatest = max side.greatest token }

-- the side fetched these words, one after the other, and the client may have put each
pub record Fetches (old new : SideData) (words : List (ℕ × ℕ)) : Type 0 where
  pub grows : new ≡ with_words old words
  pub may : All (MayFetch old) words

-- the same, and a fetch finds each of them
pub record SideFetches (Shows : ℕ × ℕ → Type 0) (old new : SideData) (words : List (ℕ × ℕ)) : Type 0 where
  pub fetches : Fetches old new words
  pub shows : All Shows words

-- what the calls on a side keep: it belongs with its words, and so does every note that did
module _ {Side Note Words : Type 0} (belongs : Side → Words → Type 0) (note_belongs : Side → Words → Note → Type 0) where
  pub record StillBelongs (words : Words) (old new : Side) : Type 0 where
    pub beside : belongs new words
    pub notes : (note : Note) → note_belongs old words note → note_belongs new words note

-- a known list has members more; an unknown one stays so
abbrev pub told_more : Option (List Written) → List Written → Option (List Written)
told_more told more = option_map (λ list. list ++ more) told
