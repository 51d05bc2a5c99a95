-- The invariant of a house, part by part, after a call.
use Rattle.std.proofs.Common.{◌≡◌, ℕ, ◌≤◌, Bool, false, Option, List, ◌∷◌, length, sym, ap, subst, ◌∙◌}
use Rattle.atomic_table.specs.Seated.{TableId}
use Rattle.gpu_word.specs.Results.{Written}
use Rattle.gpu_plan.specs.Plans.{PlansData}
use Rattle.gpu_fetch.specs.Side.{SideData}
use Rattle.wait_hooks.specs.Marks.{Marks}
use Rattle.gpu_journal.specs.declared.event.Event.{Event}
use Rattle.sync_core.specs.Standing.{is_open}
use Rattle.gpu_journal.specs.World.{stream_in}
use Rattle.gpu_journal.specs.Waits.{standing_of}
use Rattle.house_core.specs.Core.{CoreData, Stays, is_home}
use Rattle.house_core.specs.Desks.{Out}
use Rattle.house_core.specs.Invariant.{IsCore}
use Rattle.house_core.proofs.Held.{core_roomier}
use Rattle.gpu_house.specs.Names.{table_at}
use Rattle.gpu_house.specs.Slots.{SlotData}
use Rattle.gpu_house.specs.Marks.{AreMarked}
use Rattle.gpu_house.specs.House.{HouseData, HouseInvariant}
use Rattle.gpu_house.proofs.Sides.{over_slot, same_slot}
use Rattle.gpu_house.proofs.Homes as homes
use Rattle.gpu_house.proofs.Homes.{others_event, same_outs, all_kept}
use Rattle.gpu_house.proofs.Endings.{marked_again, marked_roomier}
use Rattle.gpu_house.proofs.Writings.{AllFit}

module _ {Side Note Results : Type 0} (side : Side → SideData) (table : Side → TableId) (mark : Note → ℕ) (note_of : Note → TableId → Type 0) (takes : Results → ℕ → Bool) (told : Results → Option (List Written)) (results_of : Results → TableId → Type 0) where
  -- the core keeps its clauses, and has the same plans and books; the marks, the slots and the results, of which there
  -- are as many, fit the new journal
  pub kept : (p : PlansData) (base : ℕ) (words books result_words : List TableId) (was marks : Marks) (old : HouseData Side Note Results) (now : HouseData Side Note Results) → HouseInvariant side table mark note_of takes told results_of p base words books result_words was old
      → IsCore now.core → now.core.plans ≡ old.core.plans → now.core.books ≡ old.core.books → AreMarked now.core.plans was.base now.core.past marks → length now.slots ≡ length old.slots → homes.AllFit side table mark note_of p (table_at words) now.core now.slots
      → length now.results ≡ length old.results → AllFit takes told results_of (table_at result_words) p now.core.past now.results → HouseInvariant side table mark note_of takes told results_of p base words books result_words marks now
  kept p base words books result_words was marks old now inv core plans booked marked count homes result_count results = record {
    core = core;
    plans = plans ∙ inv.plans;
    booked = booked ∙ inv.booked;
    slots = count ∙ inv.slots;
    homes = homes;
    marked = marked_again p now.core.plans base was.base now.core.past marks (plans ∙ inv.plans) inv.marked.based marked;
    result_count = result_count ∙ inv.result_count;
    results = results;
  }

-- ---- the slots, where no side leaves or comes

module _ {Side Note : Type 0} (side : Side → SideData) (table : Side → TableId) (mark : Note → ℕ) (note_of : Note → TableId → Type 0) (p : PlansData) (tables : ℕ → TableId) where
  -- the end of a stream leaves all slots as they are
  pub ended_homes : (old new : CoreData) (e : Event) (slots : List (SlotData Side Note)) → new.past ≡ e ∷ old.past → new.outs ≡ old.outs → is_open (standing_of p (e ∷ old.past) (stream_in e)) ≡ false
      → homes.AllFit side table mark note_of p tables old slots → homes.AllFit side table mark note_of p tables new slots
  ended_homes old new e slots past outs over fit =
      let s = stream_in e in
      all_kept side table mark note_of p tables old new slots s (others_event side table mark note_of p tables old new e past (same_outs side table mark note_of p tables old new s outs))
      (λ slot here. same_slot side table mark note_of p tables new.past (is_home old.outs s) (is_home new.outs s) s slot (ap (λ (row : List Out). is_home row s) outs)
      (over_slot side table mark note_of p tables old.past new.past (is_home old.outs s) s slot (subst (λ (h : List Event). is_open (standing_of p h s) ≡ false) (sym past) over) here)) fit

  -- so does nothing at all
  pub still_homes : (old new : CoreData) (slots : List (SlotData Side Note)) → new.past ≡ old.past → new.outs ≡ old.outs → homes.AllFit side table mark note_of p tables old slots → homes.AllFit side table mark note_of p tables new slots
  still_homes old new slots past outs fit =
      subst (λ (h : List Event). homes.AllFit side table mark note_of p tables record new { past = h } slots) (sym past)
      (subst (λ (row : List Out). homes.AllFit side table mark note_of p tables record new { past = old.past; outs = row } slots) (sym outs) fit)

-- ---- nothing but room

module _ {Side Note Results : Type 0} (side : Side → SideData) (table : Side → TableId) (mark : Note → ℕ) (note_of : Note → TableId → Type 0) (takes : Results → ℕ → Bool) (told : Results → Option (List Written)) (results_of : Results → TableId → Type 0) where
  -- the house keeps its invariant where there is only more room
  pub kept_still : (p : PlansData) (base : ℕ) (words books result_words : List TableId) (was marks : Marks) (old now : HouseData Side Note Results) → HouseInvariant side table mark note_of takes told results_of p base words books result_words was old
      → Stays old.core now.core → now.slots ≡ old.slots → now.results ≡ old.results → marks.base ≡ was.base → marks.marks ≡ was.marks → was.spare ≤ marks.spare → HouseInvariant side table mark note_of takes told results_of p base words books result_words marks now
  kept_still p base words books result_words was marks old now inv stays slots results based same spare = record {
    core = core_roomier old.core now.core stays inv.core;
    plans = stays.plans ∙ inv.plans;
    booked = stays.books ∙ inv.booked;
    slots = ap length slots ∙ inv.slots;
    homes = subst (homes.AllFit side table mark note_of p (table_at words) now.core) (sym slots) (still_homes side table mark note_of p (table_at words) old.core now.core old.slots stays.past stays.outs inv.homes);
    marked = subst (λ (h : List Event). AreMarked p base h marks) (sym stays.past) (marked_roomier p base old.core.past was marks inv.marked based same spare);
    result_count = ap length results ∙ inv.result_count;
    results = subst (AllFit takes told results_of (table_at result_words) p now.core.past) (sym results) (subst (λ (h : List Event). AllFit takes told results_of (table_at result_words) p h old.results) (sym stays.past) inv.results);
  }
