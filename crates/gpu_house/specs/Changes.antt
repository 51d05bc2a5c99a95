-- What a call makes of a house.
use Rattle.std.specs.Prelude.{◌≡◌, ◌≢◌, ℕ, ◌-◌, ◌++◌, [], ◌∷◌, true, false, List, Some, None, Option, IfSome, option_map, slice_get}
use Rattle.gpu_fetch.specs.Side.{SideData, StillBelongs, with_met, finish_published}
use Rattle.gpu_journal.specs.declared.event.Event.{Event}
use Rattle.gpu_house.specs.Slots.{SlotData, slot_at, with_slot}
use Rattle.gpu_house.specs.House.{HouseData}

module _ {Side Note Results : Type 0} where
  -- the journal, the runs that are out, the sides, the notes and the results are the same
  pub record Same (old new : HouseData Side Note Results) : Type 0 where
    pub past : new.core.past ≡ old.core.past
    pub outs : new.core.outs ≡ old.core.outs
    pub slots : new.slots ≡ old.slots
    pub results : new.results ≡ old.results

  -- the journal has one event more, and the runs that are out, the sides, the notes and the results are the same
  pub record Appends (old new : HouseData Side Note Results) (event : Event) : Type 0 where
    pub past : new.core.past ≡ event ∷ old.core.past
    pub outs : new.core.outs ≡ old.core.outs
    pub slots : new.slots ≡ old.slots
    pub results : new.results ≡ old.results

module _ {Side Note : Type 0} where
  -- the slot of stream s with one note more in its queue
  abbrev pub with_note : List (SlotData Side Note) → ℕ → Note → List (SlotData Side Note)
  with_note slots s note = with_slot slots s record (slot_at slots s) { notes = (slot_at slots s).notes ++ note ∷ [] }

  -- the slot of stream s with a side that came home while its order is unprocessed
  abbrev pub with_side : List (SlotData Side Note) → ℕ → Side → Option Note → List (SlotData Side Note)
  with_side slots s side note = with_slot slots s record (slot_at slots s) { side = Some side; begun = true; first = note }

  -- the slot of stream s with a side that came home once its order was finished
  abbrev pub with_done : List (SlotData Side Note) → ℕ → Side → List (SlotData Side Note)
  with_done slots s side = with_slot slots s record (slot_at slots s) { side = Some side; begun = false; first = None }

-- the side once it has met a note, where there is one
abbrev pub met_by : Option ℕ → SideData → SideData
met_by None side = side
met_by (Some mark) side = with_met side mark

module _ {Side Note Words : Type 0} (side : Side → SideData) (mark : Note → ℕ) (belongs : Side → Words → Type 0) (note_belongs : Side → Words → Note → Type 0) where
  -- a side came home once its order was finished: it has met the note that no fetch had met, and published the finish
  pub record CameDone (words : Words) (old new : List (SlotData Side Note)) (s : ℕ) (x : Side) (note : Option Note) : Type 0 where
    pub done : Side
    pub told : side done ≡ finish_published (met_by (option_map mark note) (side x))
    pub still : StillBelongs belongs note_belongs words x done
    pub slots : new ≡ with_done old s done

module _ {Results Words : Type 0} (results_belong : Words → Results → Type 0) where
  -- the results of stream s belong with these words
  abbrev pub ResultsBelong : Words → List Results → ℕ → Type 0
  ResultsBelong words results s = IfSome (slice_get results (s - 1)) (results_belong words)

  -- the results of stream s were written, and belong with these words again; those of other streams are the same
  pub record WroteResults (words : Words) (old new : List Results) (s : ℕ) : Type 0 where
    pub belong : ResultsBelong words new s
    pub others : (t : ℕ) → t ≢ s - 1 → slice_get new t ≡ slice_get old t
