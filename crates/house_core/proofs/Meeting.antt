-- What a run carries is what the journal says, while its stream is open.
use Rattle.std.proofs.Common.{◌≡◌, ℕ, ◌<◌, ◌%◌, true, Some, List, refl, sym, ap, subst, ◌∙◌, slice_get}
use Rattle.gpu_cmd.specs.declared.areas.Areas.{Areas}
use Rattle.gpu_cmd.specs.declared.facts.StreamFacts.{StreamFacts}
use Rattle.gpu_plan.specs.Plans.{PlansData, plan_of}
use Rattle.gpu_plan.specs.Places.{flush_places}
use Rattle.stream_state.specs.State.{State}
use Rattle.sync_core.specs.Standing.{is_open, first_order}
use Rattle.gpu_journal.specs.declared.event.Event.{Event}
use Rattle.gpu_journal.specs.World.{state_of}
use Rattle.gpu_journal.specs.Waits.{standing_of, left_of}
use Rattle.gpu_journal.specs.Facts.{flush_of, put_in}
use Rattle.gpu_journal.specs.Legal.{IsLegal}
use Rattle.serial_laws.proofs.Fronts.{front_placed}
use Rattle.serial_laws.proofs.Rules.{first_some}
use Rattle.house_core.specs.Desks.{DeskData, RunData, Agree}
use Rattle.house_core.specs.Core.{IsOfPlans, IsRunOf}
use Rattle.house_core.specs.Invariant.{DeskFits}

-- facts are the same by their parts
facts_same : (facts : StreamFacts) (areas : Areas) (get put fetched : ℕ) → facts.areas ≡ areas → facts.get ≡ get → facts.put ≡ put → facts.fetched ≡ fetched → facts ≡ record { areas = areas; get = get; put = put; fetched = fetched }
facts_same facts areas get put fetched a g u f = rw a (rw g (rw u (rw f refl)))

pub run_shows : (p : PlansData) (h : List Event) (run : RunData) (desk : DeskData) → IsLegal p h → DeskFits p h run.stream desk → IsOfPlans p run → Agree run desk → 0 < run.order → run.facts.get ≡ run.entries % run.facts.areas.ring
    → is_open (standing_of p h run.stream) ≡ true → IsRunOf p h run
run_shows p h run desk legal fits plan agree out get open' =
    let s = run.stream in
    let may = fits.runs (subst (λ (n : ℕ). 0 < n) agree.order out) in
    let first : first_order (left_of p h s) ≡ Some run.order = may.first open' ∙ ap Some (sym agree.order) in
    let some = first_some p h s desk.out.order desk.out.paused (record { known = plan.known; stays = open' }) may in
    let finished = agree.finished ∙ fits.finished in
    let there : Some run.place ≡ Some (flush_of p h s) = sym plan.place ∙ ap (slice_get (flush_places (plan_of p s).actions)) finished ∙ front_placed p h s legal some in
    let place : run.place ≡ flush_of p h s = cc in
    let entries = agree.entries ∙ ap (λ (state : State). state.entries) fits.state in
    record {
      order = first;
      place = place;
      facts = facts_same run.facts (plan_of p s).areas _ _ _ plan.areas (get ∙ ap (λ (n : ℕ). n % run.facts.areas.ring) entries ∙ ap (λ (a : Areas). (state_of p h s).entries % a.ring) plan.areas)
          (plan.put ∙ ap (λ (k : ℕ). put_in (slice_get (plan_of p s).actions k)) place) (agree.fetched ∙ ap (λ (state : State). state.fetched) fits.state);
      entries = entries;
      finished = finished;
      greatest = agree.greatest ∙ fits.greatest;
    }
