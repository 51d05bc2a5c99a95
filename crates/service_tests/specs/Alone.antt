-- A house of one stream, which is driven from one thread.
use Rattle.std.specs.Prelude.{◌≡◌, ℕ, false, List, length, Option, IfSome}
use Rattle.std.specs.List.{All}
use Rattle.gpu_plan.specs.Plans.{PlansData}
use Rattle.gpu_fetch.specs.Side.{SideData}
use Rattle.gpu_journal.specs.declared.event.Event.{Event}
use Rattle.gpu_journal.specs.World.{known}
use Rattle.gpu_house.specs.Slots.{slot_at}
use Rattle.gpu_house.specs.House.{HouseData, OutData}
use Rattle.gpu_house.specs.Changes.{ResultsBelong}

-- how many flushes of the stream are ordered
abbrev pub ordered : PlansData → List Event → ℕ
ordered p h = (known p h 1).ordered

module _ {Side Note Words : Type 0} (belongs : Side → Words → Type 0) (note_belongs : Side → Words → Note → Type 0) where
  -- a side belongs with these words, and so does the note that it has not met, and each in the queue
  pub record AllBelong (words : Words) (side : Side) (first : Option Note) (notes : List Note) : Type 0 where
    pub its_side : belongs side words
    pub its_first : IfSome first (note_belongs side words)
    pub its_notes : All (note_belongs side words) notes

module _ {Side Note Results Words : Type 0} (belongs : Side → Words → Type 0) (note_belongs : Side → Words → Note → Type 0) (results_belong : Words → Results → Type 0) where
  -- what the house has of its one stream belongs with these words
  pub record IsHome (words : Words) (house : HouseData Side Note Results) : Type 0 where
    pub slot : IfSome (slot_at house.slots 1).side (λ side. AllBelong belongs note_belongs words side (slot_at house.slots 1).first (slot_at house.slots 1).notes)
    pub results : ResultsBelong results_belong words house.results 1

  module _ (seen : Side → SideData) where
    -- a run of the stream is out and may go on, and what it and the house have belongs with these words
    pub record IsOutAlone (words : Words) (house : HouseData Side Note Results) (out : OutData Side Note) : Type 0 where
      pub stream : out.run.stream ≡ 1
      pub going : out.run.paused ≡ false
      pub list : length (seen out.side).fetched ≡ out.run.facts.fetched
      pub all : AllBelong belongs note_belongs words out.side out.note (slot_at house.slots 1).notes
      pub results : ResultsBelong results_belong words house.results 1
