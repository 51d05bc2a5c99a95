-- What the house of one stream has belongs with its words: after an order, while a run is out, and once it is at home.
use Rattle.std.proofs.Common.{◌≡◌, ℕ, Bool, true, false, cond, Option, Some, None, List, [], ◌∷◌, ◌++◌, length, drop, sym, ap, subst, ◌∙◌}
use Rattle.std.proofs.lemmas.List.Elements.{All-tail, All-push, All-weaker, All-nil}
use Rattle.std.specs.Prelude.{slice_get, IfSome}
use Rattle.std.specs.List.{All}
use Rattle.gpu_fetch.specs.Side.{SideData, StillBelongs}
use Rattle.gpu_house.specs.Slots.{SlotData, slot_at, with_slot, note_ahead, left_slot}
use Rattle.gpu_house.specs.House.{HouseData, OutData}
use Rattle.gpu_house.specs.Changes.{ResultsBelong, with_note}
use Rattle.gpu_house.specs.Making.{fresh_slots}
use Rattle.gpu_house.proofs.Sides.{first_of}
use Rattle.service_tests.specs.Alone.{AllBelong, IsHome, IsOutAlone}

module _ {Side Note Results Words : Type 0} (belongs : Side → Words → Type 0) (note_belongs : Side → Words → Note → Type 0) (results_belong : Words → Results → Type 0) (words : Words) where
  abbrev Slot : Type 0
  Slot = SlotData Side Note

  abbrev House : Type 0
  House = HouseData Side Note Results

  abbrev Home : House → Type 0
  Home house = IsHome belongs note_belongs results_belong words house

  abbrev Belong : Side → Option Note → List Note → Type 0
  Belong side first notes = AllBelong belongs note_belongs words side first notes

  abbrev SlotBelongs : Slot → Type 0
  SlotBelongs slot = IfSome slot.side (λ side. Belong side slot.first slot.notes)

  -- what is put into the first place stands there, or nothing does
  put_slot : (slots : List Slot) (slot : Slot) → SlotBelongs slot → SlotBelongs (slot_at (with_slot slots 1 slot) 1)
  put_slot [] slot h = tt
  put_slot (x ∷ xs) slot h = h

  -- ---- an order

  with_more : (side : Option Side) (first : Option Note) (notes : List Note) (note : Note) → IfSome side (λ x. Belong x first notes) → IfSome side (λ x. note_belongs x words note) → IfSome side (λ x. Belong x first (notes ++ note ∷ []))
  with_more None first notes note h its = tt
  with_more (Some x) first notes note h its = record { its_side = h.its_side; its_first = h.its_first; its_notes = All-push (note_belongs x words) notes note h.its_notes its }

  pub order_home : (house new : House) (note : Note) → Home house → IfSome (slot_at house.slots 1).side (λ side. note_belongs side words note) → new.slots ≡ with_note house.slots 1 note → new.results ≡ house.results → Home new
  order_home house new note home its slots results =
      let slot = slot_at house.slots 1 in
      record {
        slot = subst (λ (row : List Slot). SlotBelongs (slot_at row 1)) (sym slots) (put_slot house.slots record slot { notes = slot.notes ++ note ∷ [] } (with_more slot.side slot.first slot.notes note home.slot its));
        results = subst (λ (list : List Results). ResultsBelong results_belong words list 1) (sym results) home.results;
      }

  -- ---- a run leaves

  rest_of : (P : Note → Type 0) (notes : List Note) → All P notes → All P (drop 1 notes)
  rest_of P [] all = all
  rest_of P (x ∷ xs) all = All-tail P x xs all

  left_with : (side : Side) (begun : Bool) (first : Option Note) (notes : List Note) → Belong side first notes → Belong side (cond begun first (slice_get notes 0)) (cond begun notes (drop 1 notes))
  left_with side true first notes h = h
  left_with side false first notes h = record { its_side = h.its_side; its_first = first_of (note_belongs side words) notes h.its_notes; its_notes = rest_of (note_belongs side words) notes h.its_notes }

  belongs_there : (side : Side) (o : Option Side) (first : Option Note) (notes : List Note) → Some side ≡ o → IfSome o (λ x. Belong x first notes) → Belong side first notes
  belongs_there side o first notes is h = subst (λ (at : Option Side). IfSome at (λ x. Belong x first notes)) (sym is) h

  leaves : (slots : List Slot) (side : Side) → Some side ≡ (slot_at slots 1).side → SlotBelongs (slot_at slots 1) → Belong side (note_ahead (slot_at slots 1)) (slot_at (with_slot slots 1 (left_slot (slot_at slots 1))) 1).notes
  leaves [] side is h = absurd (cc)
  leaves (x ∷ xs) side is h = left_with side x.begun x.first x.notes (belongs_there side x.side x.first x.notes is h)

  module _ (seen : Side → SideData) where
    pub taken : (house new : House) (out : OutData Side Note) → Home house → out.run.stream ≡ 1 → out.run.paused ≡ false → length (seen out.side).fetched ≡ out.run.facts.fetched → Some out.side ≡ (slot_at house.slots out.run.stream).side → out.note ≡ note_ahead (slot_at house.slots out.run.stream)
        → new.slots ≡ with_slot house.slots out.run.stream (left_slot (slot_at house.slots out.run.stream)) → new.results ≡ house.results → IsOutAlone belongs note_belongs results_belong seen words new out
    taken house new out home one going list side note slots results =
        let its_side : Some out.side ≡ (slot_at house.slots 1).side = side ∙ ap (λ (s : ℕ). (slot_at house.slots s).side) one in
        let its_note : out.note ≡ note_ahead (slot_at house.slots 1) = note ∙ ap (λ (s : ℕ). note_ahead (slot_at house.slots s)) one in
        let row : new.slots ≡ with_slot house.slots 1 (left_slot (slot_at house.slots 1)) = slots ∙ ap (λ (s : ℕ). with_slot house.slots s (left_slot (slot_at house.slots s))) one in
        record {
          stream = one;
          going = going;
          list = list;
          all = subst (λ (l : List Slot). Belong out.side out.note (slot_at l 1).notes) (sym row)
              (subst (λ (o : Option Note). Belong out.side o (slot_at (with_slot house.slots 1 (left_slot (slot_at house.slots 1))) 1).notes) (sym its_note) (leaves house.slots out.side its_side home.slot));
          results = subst (λ (l : List Results). ResultsBelong results_belong words l 1) (sym results) home.results;
        }

  -- what a side's calls keep
  pub still : (old new : Side) (first : Option Note) (notes : List Note) → StillBelongs belongs note_belongs words old new → Belong old first notes → Belong new None notes
  still old new first notes keeps h = record { its_side = keeps.beside; its_first = tt; its_notes = All-weaker (note_belongs old words) (note_belongs new words) keeps.notes notes h.its_notes }

  -- ---- a new house

  pub fresh_home : (house : House) (side : Side) (results : Results) → belongs side words → results_belong words results → house.slots ≡ fresh_slots (side ∷ []) → house.results ≡ results ∷ [] → Home house
  fresh_home house side results its its_results slots list = record {
    slot = subst (λ (l : List Slot). SlotBelongs (slot_at l 1)) (sym slots) record { its_side = its; its_first = tt; its_notes = All-nil (note_belongs side words) };
    results = subst (λ (l : List Results). ResultsBelong results_belong words l 1) (sym list) its_results;
  }
