-- The slots of a house after an order: the note of the flush stands after the others of its stream.
use Rattle.std.proofs.Common.{◌≡◌, ℕ, ◌+◌, ◌-◌, ◌<◌, false, Option, Some, List, [], ◌∷◌, ◌++◌, length, get_or, set, refl, sym, ap, subst, ◌∙◌, unwrap_or, IsSome}
use Rattle.std.specs.Prelude.{slice_get}
use Rattle.atomic_table.specs.Seated.{TableId}
use Rattle.gpu_plan.specs.Plans.{PlansData, plan_of}
use Rattle.gpu_plan.specs.Places.{flush_places, mark_of}
use Rattle.gpu_plan.specs.Passes.{flushes}
use Rattle.gpu_fetch.specs.Side.{SideData}
use Rattle.sync_core.specs.Standing.{IsKnown}
use Rattle.gpu_journal.specs.declared.event.Event.{Event}
use Rattle.gpu_journal.specs.declared.event.Event.TheVariants.{Order}
use Rattle.gpu_journal.specs.World.{known}
use Rattle.gpu_journal.specs.Waits.{standing_of, drawn}
use Rattle.gpu_journal.specs.Legal.{IsLegal}
use Rattle.gpu_journal.specs.Serial.{order_event}
use Rattle.serial_laws.proofs.Flushes.{flush_there}
use Rattle.serial_laws.proofs.Ended.{next_open}
use Rattle.house_core.specs.Core.{CoreData, is_home}
use Rattle.house_core.specs.Desks.{Out}
use Rattle.gpu_house.specs.Slots.{SlotData, slot_at, SlotFits}
use Rattle.gpu_house.proofs.Rows.{slot_there, slot_fits}
use Rattle.gpu_house.proofs.Sides.{order_slot}
use Rattle.gpu_house.proofs.Homes.{AllFit, FitsAt, all_set, others_event, same_outs}

-- the next flush of a stream that has one
pub next_there : (p : PlansData) (h : List Event) (s : ℕ) → (known p h s).ordered < flushes (plan_of p s).actions → IsSome (slice_get (flush_places (plan_of p s).actions) (known p h s).ordered)
next_there p h s next = subst IsSome (sym (flush_there (plan_of p s).actions (known p h s).ordered next).1) refl

-- a note that was pushed and comes back leaves its slot as it was
pub pushed_back : {Side Note : Type 0} (slot pushed popped : SlotData Side Note) (note : Note) (answer : Option Note) → pushed ≡ record slot { notes = slot.notes ++ note ∷ [] }
    → ((notes : List Note) (last : Note) → pushed.notes ≡ notes ++ last ∷ [] → (answer ≡ Some last) × (popped ≡ record pushed { notes = notes })) → popped ≡ slot
pushed_back {Side} {Note} slot pushed popped note answer push pop =
    (pop slot.notes note (ap (λ (x : SlotData Side Note). x.notes) push)).1 ∙ ap (λ (x : SlotData Side Note). record x { notes = slot.notes }) push

module _ {Side Note : Type 0} (side : Side → SideData) (table : Side → TableId) (mark : Note → ℕ) (note_of : Note → TableId → Type 0) (p : PlansData) (tables : ℕ → TableId) where
  pub ordered_homes : (old new : CoreData) (slots : List (SlotData Side Note)) (s : ℕ) (note : Note) (slot pushed : SlotData Side Note) → IsLegal p old.past → IsKnown (length slots) s → (standing_of p old.past s).lost ≡ false
      → (known p old.past s).ordered < flushes (plan_of p s).actions → mark note ≡ mark_of (plan_of p s) (known p old.past s).ordered → note_of note (tables s) → new.past ≡ order_event p old.past s ∷ old.past → new.outs ≡ old.outs
      → slot ≡ get_or slots (s - 1) slot → pushed ≡ record slot { notes = slot.notes ++ note ∷ [] } → AllFit side table mark note_of p tables old slots → AllFit side table mark note_of p tables new (set slots (s - 1) pushed)
  ordered_homes old new slots s note slot pushed legal here kept next is shared past outs read push was =
      let there = flush_there (plan_of p s).actions (known p old.past s).ordered next in
      let n = drawn p old.past + 1 in
      let event : order_event p old.past s ≡ Order s n there.0 = ap (λ (o : Option ℕ). Order s n (unwrap_or o 0)) there.1 in
      let grown : new.past ≡ Order s n there.0 ∷ old.past = past ∙ ap (λ (e : Event). e ∷ old.past) event in
      let own = slot_fits (FitsAt side table mark note_of p tables old) slots s here was in
      let same : slot ≡ slot_at slots s = read ∙ slot_there slots s slot here in
      let fits = order_slot side table mark note_of p tables old.past (is_home old.outs s) s n there.0 note (slot_at slots s) legal (next_open p old.past s there.0 legal there.1 kept) there.1 is shared own in
      let pushed_is : pushed ≡ record (slot_at slots s) { notes = (slot_at slots s).notes ++ note ∷ [] } = push ∙ ap (λ (x : SlotData Side Note). record x { notes = x.notes ++ note ∷ [] }) same in
      all_set side table mark note_of p tables old new slots s pushed here
      (others_event side table mark note_of p tables old new (Order s n there.0) grown (same_outs side table mark note_of p tables old new s outs))
      (subst (λ (h : List Event). SlotFits side table mark note_of p tables h (is_home new.outs s) s pushed) (sym grown)
      (subst (λ (row : List Out). SlotFits side table mark note_of p tables (Order s n there.0 ∷ old.past) (is_home row s) s pushed) (sym outs)
      (subst (SlotFits side table mark note_of p tables (Order s n there.0 ∷ old.past) (is_home old.outs s) s) (sym pushed_is) fits)))
      was
