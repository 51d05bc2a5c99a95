-- A step keeps the invariant of the core, and leaves its run at the next command.
use Rattle.std.proofs.Common.{◌≡◌, ℕ, ◌+◌, ◌%◌, Bool, false, List, ◌∷◌, length, refl, sym, ap, subst, ◌∙◌, arith}
use Rattle.std.specs.Prelude.{slice_get}
use Rattle.gpu_word.specs.Header.{size_of}
use Rattle.gpu_cmd.specs.declared.facts.StreamFacts.{StreamFacts}
use Rattle.gpu_store.specs.declared.op.Answer.{Answer}
use Rattle.gpu_plan.specs.Plans.{PlansData, plan_of}
use Rattle.gpu_plan.specs.Places.{flush_places}
use Rattle.stream_state.specs.declared.effect.Effect.{Effect}
use Rattle.stream_state.specs.State.{State, noted}
use Rattle.stream_state.specs.Steps.{header_in, stepped}
use Rattle.stream_state.proofs.Runs.{stepped_entries, stepped_fetched}
use Rattle.sync_core.specs.Standing.{Standing}
use Rattle.gpu_journal.specs.declared.event.Event.{Event}
use Rattle.gpu_journal.specs.declared.event.Event.TheVariants.{Step}
use Rattle.gpu_journal.specs.World.{world, asked_by, drawn_by, state_of, replay}
use Rattle.gpu_journal.specs.Waits.{standing_of, drawn}
use Rattle.gpu_journal.specs.Facts.{facts_at}
use Rattle.gpu_journal.specs.Legal.{Obeys}
use Rattle.gpu_journal.proofs.Worlds.{states_within}
use Rattle.serial_laws.proofs.Others.{standing_own}
use Rattle.serial_laws.proofs.Rooms.{step_consumes}
use Rattle.serial_laws.proofs.Spent.{asked_same}
use Rattle.serial_laws.specs.Runs.{MayGoOn, step_keeps}
use Rattle.gpu_journal.specs.World.{greatest_after}
use Rattle.serial_laws.proofs.Going.{step_goes_on}
use Rattle.serial_laws.proofs.Runs.{step_open}
use Rattle.serial_laws.proofs.Fronts.{left_open}
use Rattle.serial_laws.proofs.Knowns.{step_state, step_ordered, step_finished, step_greatest}
use Rattle.step_parts.specs.declared.acted.Acted.{Acted}
use Rattle.house_core.specs.Desks.{Out, DeskData, RunData, Agree, desk_at, run_of}
use Rattle.house_core.specs.Core.{CoreData, IsOfPlans, IsOfCore, IsAway, IsRunOf}
use Rattle.house_core.specs.Answers.{WasExecuted, IsMovedBy, further}
use Rattle.house_core.specs.Stepping.{stepped_desk}
use Rattle.house_core.specs.Invariant.{Parts, DeskFits, CoreInvariant, seen}
use Rattle.house_core.proofs.Rows.{book_at_desk, out_at_desk}
use Rattle.house_core.proofs.Again.{Place, place_of}
use Rattle.house_core.proofs.Meeting.{run_shows}
use Rattle.house_core.proofs.Taking.{first_positive}
use Rattle.house_core.proofs.Moving.{moves_further}
use Rattle.house_core.proofs.Executing.{laid_out}
use Rattle.house_core.proofs.Walking.{walked_on, greatest_grows}

-- the desk of stream s after a step on these words
abbrev pub desk_after : PlansData → ℕ → List (ℕ × ℕ) → Acted → DeskData → DeskData
desk_after p s words acted desk = stepped_desk (noted acted.answer (stepped (plan_of p s).areas words desk.state)) acted desk.out.order desk

-- it fits
pub fits_step : (p : PlansData) (h : List Event) (s : ℕ) (words : List (ℕ × ℕ)) (acted : Acted) (desk : DeskData) → DeskFits p h s desk → WasExecuted p h s words acted → MayGoOn p h s desk.out.order false
    → DeskFits p (Step s words ∷ h) s (desk_after p s words acted desk)
fits_step p h s words acted desk was told may =
    let asked = asked_by p s words (world p h) in
    let own = standing_own p (Step s words) h in
    let ends = asked_same p asked (drawn p h + 1) (standing_of p h s) in
    let answer = told.answer ∙ ap (λ (effect : Effect). (drawn_by effect (replay p h)).answer) told.effect in
    let areas = (plan_of p s).areas in
    record {
      places = was.places;
      state = ap (λ (answer : Answer). noted answer (stepped areas words desk.state)) answer ∙ ap (λ (state : State). noted (drawn_by asked (replay p h)).answer (stepped areas words state)) was.state ∙ sym (step_state p h s words);
      ordered = was.ordered ∙ sym (step_ordered p h s words);
      finished = was.finished ∙ sym (step_finished p h s words);
      greatest = ap (λ (effect : Effect). greatest_after effect desk.greatest) told.effect ∙ ap (greatest_after asked) was.greatest ∙ sym (step_greatest p h s words);
      lost = was.lost ∙ sym (ap (λ (x : Standing). x.lost) own ∙ ends.0);
      closed = was.closed ∙ sym (ap (λ (x : Standing). x.closed) own ∙ ends.1);
      walked = walked_on (plan_of p s).actions desk.finished desk.finished desk.greatest (greatest_after acted.effect desk.greatest) desk.walk (omega arith) (greatest_grows acted.effect desk.greatest) was.walked;
      runs = λ out. step_goes_on p h s words desk.out.order acted.kept (told.kept ∙ ap (step_keeps p h s) told.effect) may;
    }

-- ---- the run

-- a run that is out and not paused is what its desk and the journal say
pub record IsOut (c : Parts) (run : RunData) : Type 0 where
  pub place : Place c run.stream
  pub plan : IsOfPlans c.plans run
  pub out : (desk_at c.desks run.stream).out ≡ record { order = run.order; paused = false }
  pub going : run.paused ≡ false
  pub book : run.book ≡ (desk_at c.desks run.stream).book
  pub shows : IsRunOf c.plans c.past run

pub out_seen : (c : Parts) (v : CoreData) (run : RunData) (words : List (ℕ × ℕ)) → seen c ≡ v → CoreInvariant c → IsOfCore v run → IsAway v run → run.paused ≡ false → Obeys v.plans v.past (Step run.stream words) → IsOut c run
out_seen c v run words was invariant own away going obeys =
    let mine = subst (λ (v : CoreData). IsOfCore v run) (sym was) own in
    let is = subst (λ (v : CoreData). IsAway v run) (sym was) away in
    let may = subst (λ (v : CoreData). Obeys v.plans v.past (Step run.stream words)) (sym was) obeys in
    record {
      place = place_of c run.stream invariant mine.plan.known;
      plan = mine.plan;
      out = sym (out_at_desk c.desks run.stream) ∙ is.out ∙ ap (λ (paused : Bool). record { order = run.order; paused = paused }) going;
      going = going;
      book = mine.book ∙ book_at_desk c.desks run.stream;
      shows = is.shows (left_open c.plans c.past run.stream invariant.legal may.rule_4).0;
    }

pub agrees : (c : Parts) (run : RunData) → IsOut c run → Agree run (desk_at c.desks run.stream)
agrees c run is =
    let fits = is.place.fits in
    record {
      entries = is.shows.entries ∙ sym (ap (λ (state : State). state.entries) fits.state);
      fetched = ap (λ (facts : StreamFacts). facts.fetched) is.shows.facts ∙ sym (ap (λ (state : State). state.fetched) fits.state);
      finished = is.shows.finished ∙ sym fits.finished;
      greatest = is.shows.greatest ∙ sym fits.greatest;
      order = ap (λ (out : Out). out.order) (sym is.out);
      paused = is.going ∙ ap (λ (out : Out). out.paused) (sym is.out);
    }

pub may_step : (c : Parts) (run : RunData) → IsOut c run → MayGoOn c.plans c.past run.stream (desk_at c.desks run.stream).out.order false
may_step c run is =
    let order = first_positive c.plans c.past run.stream run.order is.shows.order in
    let may = is.place.fits.runs (rw (ap (λ (out : Out). out.order) is.out) order) in
    subst (MayGoOn c.plans c.past run.stream (desk_at c.desks run.stream).out.order) (ap (λ (out : Out). out.paused) is.out) may

-- the run after a step
abbrev pub run_after : Parts → RunData → List (ℕ × ℕ) → Acted → RunData
run_after c run words acted = run_of run.stream (plan_of c.plans run.stream).areas run.place run.facts.put (desk_after c.plans run.stream words acted (desk_at c.desks run.stream))

-- it is what the journal says then
pub run_goes_on : (c : Parts) (run : RunData) (words : List (ℕ × ℕ)) (acted : Acted) → CoreInvariant c → IsOut c run → Obeys c.plans c.past (Step run.stream words) → WasExecuted c.plans c.past run.stream words acted
    → IsRunOf c.plans (Step run.stream words ∷ c.past) (run_after c run words acted)
run_goes_on c run words acted was is obeys told =
    let p = c.plans in
    let h = c.past in
    let s = run.stream in
    let desk = desk_after p s words acted (desk_at c.desks s) in
    let finished = (agrees c run is).finished in
    let order = ap (λ (out : Out). out.order) is.out in
    let open' = (left_open p h s was.legal obeys.rule_4).0 in
    run_shows p (Step s words ∷ h) (run_after c run words acted) desk (obeys, was.legal) (fits_step p h s words acted (desk_at c.desks s) is.place.fits told (may_step c run is)) record {
      known = is.plan.known;
      areas = refl;
      place = ap (slice_get (flush_places (plan_of p s).actions)) (sym finished) ∙ is.plan.place;
      put = is.plan.put;
    } record {
      entries = refl;
      fetched = refl;
      finished = refl;
      greatest = refl;
      order = refl;
      paused = refl;
    } (rw order (first_positive p h s run.order is.shows.order)) refl (step_open p h s words ∙ open')

-- and it moved on by the step's command
pub run_moves : (c : Parts) (run : RunData) (words : List (ℕ × ℕ)) (acted : Acted) → CoreInvariant c → IsOut c run → Obeys c.plans c.past (Step run.stream words) → IsMovedBy run (run_after c run words acted) words acted.kept
run_moves c run words acted was is obeys =
    let p = c.plans in
    let h = c.past in
    let s = run.stream in
    let areas = (plan_of p s).areas in
    let desk = desk_at c.desks s in
    let lawful = laid_out c s was is.place in
    let within = states_within p h s lawful was.legal in
    let fits = step_consumes p h s words lawful within.bounded obeys in
    let size = size_of (header_in words) in
    let entries = (state_of p h s).entries in
    let least = lawful.ring_least in
    record {
      stream = refl;
      order = ap (λ (out : Out). out.order) is.out;
      place = refl;
      areas = sym is.plan.areas;
      put = refl;
      get = ap (λ (n : ℕ). n % areas.ring) (stepped_entries areas words desk.state) ∙ ap (λ (state : State). (state.entries + size) % areas.ring) is.place.fits.state
          ∙ moves_further areas.ring entries (facts_at p h s).put size (omega arith) fits.in_ring fits.within ∙ ap (λ (facts : StreamFacts). further facts.areas.ring facts.get size) (sym is.shows.facts);
      fetched = stepped_fetched areas words desk.state ∙ ap (λ (n : ℕ). n + length words) (sym (agrees c run is).fetched);
      finished = sym (agrees c run is).finished;
      paused = refl;
      book = sym is.book;
    }
