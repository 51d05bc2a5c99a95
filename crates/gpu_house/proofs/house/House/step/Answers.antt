use Rattle.std.proofs.Common.{◌≡◌, ℕ, ◌-◌, ◌≤◌, Bool, false, true, List, ◌∷◌, option_map, length, refl, sym, ap, subst, ◌∙◌, arith, length-set}
use Rattle.std.specs.Prelude.{slice_set, slice_index_or}
use Rattle.std.specs.List.{All}
use Rattle.gpu_word.specs.Results.{writes_listed}
use Rattle.gpu_cmd.specs.Spans.{words_in}
use Rattle.gpu_plan.specs.Plans.{PlansData, plan_of}
use Rattle.gpu_fetch.specs.Side.{SideData, StillBelongs, told_more}
use Rattle.stream_state.specs.declared.effect.Effect.{Effect}
use Rattle.stream_state.specs.Steps.{writes}
use Rattle.stream_state.specs.Told.{writes_told}
use Rattle.sync_core.specs.Standing.{IsKnown, is_open}
use Rattle.gpu_journal.specs.World.{world, asked_by, state_of, replay}
use Rattle.gpu_journal.specs.declared.event.Event.{Event}
use Rattle.gpu_journal.specs.declared.event.Event.TheVariants.{Step, Lost}
use Rattle.gpu_journal.specs.declared.event.Why.TheVariants.{Error}
use Rattle.gpu_journal.specs.Waits.{standing_of, pending_in}
use Rattle.serial_laws.specs.Runs.{step_keeps}
use Rattle.house_core.specs.Core.{Stays, Grows, IsRunOf, MayHavePut, is_home, book_at}
use Rattle.house_core.specs.Answers as answers
use Rattle.house_core.specs.Answers.{WasExecuted}
use Rattle.serial_laws.proofs.Going.{lost_ends}
use Rattle.house_core.specs.Desks.{Out}
use Rattle.gpu_house.specs.Names.{table_at}
use Rattle.gpu_house.specs.Marks.{AreMarked, MayBeMarked}
use Rattle.gpu_house.proofs.Cases.{of_lost, of_closed, of_invalid, of_done, goes_on, known_here}
use Rattle.gpu_house.proofs.Out.{stays_out}
use Rattle.gpu_house.proofs.Parts.{first_of_all}
use Rattle.gpu_house.proofs.Endings.{waits_made, step_makes, grown_follow}
use Rattle.gpu_house.proofs.Writings.{AllFit, all_still, all_more, at_stream, read_belongs, wrote, wrote_none}
use Rattle.gpu_house.proofs.Homes.{stepped_homes, is_away}
use Rattle.gpu_house.proofs.Keeping.{kept, kept_still, ended_homes}
use Rattle.house_core.specs.Desks.{RunData}
use Rattle.gpu_house.specs.Slots.{RunFits}
use Rattle.gpu_house.specs.House.{HouseData, OutData, HouseInvariant}
use Rattle.gpu_house.specs.Changes.{ResultsBelong, met_by}
use Rattle.gpu_house.specs.Batches.{AreNext}
use Rattle.gpu_house.specs.Steps.{told_side, IsRunStepDone, IsRefused, Steps}
use Rattle.gpu_house.specs.Stepping.{KeepsBeside, TookStep}
use Rattle.gpu_house.specs.Drawing.{drawn_if, Draws}
use Rattle.gpu_house.proofs.Drawings.{told_drawn, draws_step, draws_lost, drawn_where}
use Rattle.gpu_house.proofs.Stepping.{note_marked, met_fits, stepped_fits, told_list, ends}
use Rattle.gpu_house.proofs.house.House.step.Given.{Over}
use Rattle.gpu_house.proofs.house.House.step.Goals as goal
use Rattle.gpu_house.proofs.house.House.step.Goals.{After-drawn_of, After-step, After-stream-stream, In-Done, In-Invalid, In_ok-step}

-- the words of the step are the next that its side fetched, so they may have been put
pub step-requires-clause-may : goal.step-requires-clause-may
step-requires-clause-may g c =
    let S = g.P.ServiceSide in
    let run = c.run.inside.carried in
    let next : AreNext run.facts (S.side c.run.inside.side).fetched c.args.fetched.now.words = subst (λ (o : OutData g.row.P.Denot g.row.P-Note.Denot). AreNext o.run.facts (S.side o.side).fetched c.args.fetched.now.words) (sym c.run.view_is) c.requires.list in
    subst (λ (q : PlansData). All (MayHavePut q run) c.args.fetched.now.words) (sym c.self.invariant.plans) (first_of_all (MayHavePut g.N.Naming.plans run) c.args.fetched.now.words next.rest (subst (All (MayHavePut g.N.Naming.plans run)) next.next c.run.invariant.may))

-- ---- what the core did

refused : (g : Over) (c : goal.In-Invalid g) → answers.IsStepRefused c.self.inside.core c.step.new.self c.run.inside.carried c.step.new.run c.args.fetched.now.words c.in-Invalid.error
refused g c = of_invalid _ _ _ _ _ c.in_ok-step.field-0 c.in_ok-step.ensures.steps c.in-Invalid.error c.in-Invalid.is

made : (g : Over) (c : goal.In-Done g) → answers.IsStepDone c.self.inside.core c.step.new.self c.run.inside.carried c.step.new.run c.args.fetched.now.words c.in-Done.acted
made g c = of_done _ _ _ _ _ c.in_ok-step.field-0 c.in_ok-step.ensures.steps c.in-Done.acted c.in-Done.is

-- what holds of the parts of the house and of the run holds of both as contracts see them
seen : (g : Over) (c : goal.After-step g) (F : PlansData → HouseData g.row.P.Denot g.row.P-Note.Denot g.row.P-Results.Denot → OutData g.row.P.Denot g.row.P-Note.Denot → Type 0)
    → F c.self.inside.core.plans record { core = c.self.inside.core; slots = c.self.inside.slots.items; results = c.self.inside.results.items } record { run = c.run.inside.carried; side = c.run.inside.side; note = c.run.inside.note } → F g.N.Naming.plans c.args.self.now c.args.run.now
seen g c F f =
    let house : HouseData g.row.P.Denot g.row.P-Note.Denot g.row.P-Results.Denot = record { core = c.self.inside.core; slots = c.self.inside.slots.items; results = c.self.inside.results.items } in
    let out : OutData g.row.P.Denot g.row.P-Note.Denot = record { run = c.run.inside.carried; side = c.run.inside.side; note = c.run.inside.note } in
    subst (λ h. F g.N.Naming.plans h c.args.run.now) c.self.view_is (subst (F g.N.Naming.plans house) c.run.view_is (subst (λ (q : PlansData). F q house out) c.self.invariant.plans f))

-- ---- nothing but room

stays : (g : Over) (c : goal.After-step g) → Stays c.self.inside.core c.step.new.self
    → HouseInvariant g.P.ServiceSide.side g.P.ServiceSide.table g.P.ServiceSide.mark g.P.ServiceSide.note_of g.P.ServiceSide.takes g.P.ServiceSide.written g.P.ServiceSide.results_of g.N.Naming.plans g.N.Naming.base g.N.Naming.words g.N.Naming.books g.N.Naming.result_words c.take_room.new.hooks record { core = c.step.new.self; slots = c.self.inside.slots.items; results = c.self.inside.results.items }
stays g c same =
    let room = c.take_room.ensures in
    kept_still _ _ _ _ _ _ _ _ _ _ _ _ c.self.inside.hooks _ _ _ c.self.invariant same refl refl room.base room.marks room.grows

-- memory ran out for the step
pub invariant_of-self-in_err-step : goal.invariant_of-self-in_err-step
invariant_of-self-in_err-step g c = stays g (goal.at.invariant_of-self-in_err-step g c).After-step c.in_err-step.ensures.err

pub invariant_of-self-in-Lost : goal.invariant_of-self-in-Lost
invariant_of-self-in-Lost g c = stays g (goal.at.invariant_of-self-in-Lost g c).After-step (of_lost _ _ _ _ _ c.in_ok-step.field-0 c.in_ok-step.ensures.steps c.in-Lost.is).stays

pub invariant_of-self-in-Closed : goal.invariant_of-self-in-Closed
invariant_of-self-in-Closed g c = stays g (goal.at.invariant_of-self-in-Closed g c).After-step (of_closed _ _ _ _ _ c.in_ok-step.field-0 c.in_ok-step.ensures.steps c.in-Closed.is).stays

-- ---- the house

-- there is room for the mark of the one wait that an event may make
marked : (g : Over) (c : goal.In_ok-step g) (e : Event) → Grows c.self.inside.core c.step.new.self e → waits_made g.N.Naming.plans e c.self.inside.core.past ≤ 1
    → MayBeMarked c.step.new.self.plans c.take_room.new.hooks.base c.step.new.self.past c.take_room.new.hooks
marked g c e grows few =
    let p = g.N.Naming.plans in
    let core = c.self.inside.core in
    let was = c.self.invariant in
    let waiting : c.waiting.result ≡ length (pending_in p core.past) = c.waiting.ensures ∙ ap (λ (p : PlansData). length (pending_in p core.past)) was.plans in
    let room = c.in_ok-take_room.ensures.room in
    grown_follow p g.N.Naming.base e core c.step.new.self c.self.inside.hooks c.take_room.new.hooks was.plans grows was.marked c.take_room.ensures.base c.take_room.ensures.marks (omega (arith, waiting, room, few))

pub follow-requires : goal.follow-requires
follow-requires g c =
    let path = goal.at.follow-requires g c in
    marked g path.In_ok-step (Lost c.run.inside.carried.stream (Error c.in-Invalid.error) c.args.fetched.now.words) (refused g path.In-Invalid).event (omega arith)

pub follow-requires-2 : goal.follow-requires-2
follow-requires-2 g c =
    let path = goal.at.follow-requires-2 g c in
    let words = c.args.fetched.now.words in
    let s = c.run.inside.carried.stream in
    marked g path.In_ok-step (Step s words) (made g path.In-Done).stepped.event (step_makes g.N.Naming.plans c.self.inside.core.past s words)

-- the stream of the run has results
module _ (g : Over) (c : goal.After-stream-stream g) where
  its : c.stream-stream.result ≡ c.run.inside.carried.stream
  its = c.stream-stream.ensures ∙ (made g (goal.at.After-stream-stream g c).In-Done).stepped.moved.stream

  known : IsKnown (length c.self.inside.results.items) c.stream-stream.result
  known = known_here g.N.Naming.plans c.self.inside.results.items c.stream-stream.result c.run.inside.carried.stream c.self.invariant.result_count its c.run.invariant.of_plans.known

pub tell-requires-clause-results : goal.tell-requires-clause-results
tell-requires-clause-results g c =
    let there = (goal.at.tell-requires-clause-results g c).After-stream-stream in
    read_belongs g.P.ServiceSide.results_belong c.args.words.now c.args.self.now.results c.self.inside.results.items c.args.run.now.run.stream c.stream-stream.result c.index_mut.result.now
    (ap (λ h. h.results) c.self.view_is) (its g there ∙ ap (λ r. r.run.stream) c.run.view_is) (known g there) c.index_mut.ensures.value c.requires.results

pub tell-requires-clause-takes : goal.tell-requires-clause-takes
tell-requires-clause-takes g c =
    let p = g.N.Naming.plans in
    let core = c.self.inside.core in
    let t = c.stream-stream.result in
    let run = c.run.inside.carried in
    let was = c.self.invariant in
    let path = goal.at.tell-requires-clause-takes g c in
    let there = path.After-stream-stream in
    let acted = (made g path.In-Done).stepped.acted in
    let fit = at_stream g.P.ServiceSide.takes g.P.ServiceSide.written g.P.ServiceSide.results_of (table_at g.N.Naming.result_words) p core.past c.self.inside.results.items t c.index_mut.result.now (known g there) c.index_mut.ensures.value was.results in
    let few : words_in (plan_of core.plans run.stream).areas.results ≡ words_in (plan_of p t).areas.results = ap (λ (q : PlansData). words_in (plan_of q run.stream).areas.results) was.plans ∙ ap (λ (s : ℕ). words_in (plan_of p s).areas.results) (sym (its g there)) in
    λ k d lt. fit.takes_all (slice_index_or (writes_told c.in-Done.acted.effect) k d).0 (let low = acted.places k d lt in omega (arith, low, few))

pub invariant_of-self-in-Invalid : goal.invariant_of-self-in-Invalid
invariant_of-self-in-Invalid g c =
    let S = g.P.ServiceSide in
    let p = g.N.Naming.plans in
    let h = c.self.inside.core.past in
    let now = c.step.new.self in
    let s = c.run.inside.carried.stream in
    let why = Error c.in-Invalid.error in
    let words = c.args.fetched.now.words in
    let results = c.self.inside.results.items in
    let was = c.self.invariant in
    let is = refused g (goal.at.invariant_of-self-in-Invalid g c).In-Invalid in
    let grows = is.event in
    kept _ _ _ _ _ _ _ _ _ _ _ _ c.self.inside.hooks _ _ _ was c.shows_core.ensures grows.plans grows.books (subst (λ (b : ℕ). AreMarked now.plans b now.past c.follow.new.hooks) c.take_room.ensures.base c.follow.ensures) refl
    (ended_homes _ _ _ _ _ _ c.self.inside.core now (Lost s why words) c.self.inside.slots.items grows.past is.outs (lost_ends p h s why words) was.homes) refl
    (subst (λ (h : List Event). AllFit S.takes S.written S.results_of (table_at g.N.Naming.result_words) p h results) (sym grows.past) (all_still S.takes S.written S.results_of (table_at g.N.Naming.result_words) p (Lost s why words) h results (λ s. refl) was.results))

pub invariant_of-self-2 : goal.invariant_of-self-2
invariant_of-self-2 g c =
    let S = g.P.ServiceSide in
    let p = g.N.Naming.plans in
    let core = c.self.inside.core in
    let now = c.step.new.self in
    let run = c.run.inside.carried in
    let s = run.stream in
    let t = c.stream-stream.result in
    let path = goal.at.invariant_of-self-2 g c in
    let there = path.After-stream-stream in
    let words = c.args.fetched.now.words in
    let results = c.self.inside.results.items in
    let was = c.self.invariant in
    let is = made g path.In-Done in
    let own = is.stepped in
    let grows = own.event in
    let away = c.in_ok-step.ensures.away in
    let wrote : writes_told c.in-Done.acted.effect ≡ writes (plan_of p s).areas words (state_of p core.past s) = subst (λ (q : PlansData). writes_told c.in-Done.acted.effect ≡ writes (plan_of q s).areas words (state_of q core.past s)) was.plans own.acted.writes in
    kept _ _ _ _ _ _ _ _ _ _ _ _ c.self.inside.hooks _ _ _ was c.shows_core-2.ensures grows.plans grows.books (subst (λ (b : ℕ). AreMarked now.plans b now.past c.follow-2.new.hooks) c.take_room.ensures.base c.follow-2.ensures) refl
    (stepped_homes _ _ _ _ _ _ core now c.self.inside.slots.items s words record { order = run.order; paused = c.in-Done.acted.kept } c.run.invariant.of_plans.known.0 grows.past own.outs
    (ap (λ (q : PlansData). is_open (standing_of q core.past s)) (sym was.plans) ∙ is.still_open) (is_away core run away)
    (ap (λ (row : List Out). is_home row s) own.outs ∙ stays_out core run c.in-Done.acted.kept away) was.homes)
    (length-set results (t - 1) c.tell.new.results)
    (subst (λ (h : List Event). AllFit S.takes S.written S.results_of (table_at g.N.Naming.result_words) p h (slice_set results (t - 1) c.tell.new.results)) (sym grows.past)
    (all_more S.takes S.written S.results_of (table_at g.N.Naming.result_words) p (Step s words) core.past results t c.tell.new.results c.index_mut.result.now (its g there) (known g there) c.index_mut.ensures.value
    (c.tell.ensures.written ∙ ap (λ list. told_more (S.written c.index_mut.result.now) (writes_listed list)) wrote) c.tell.ensures.takes c.tell.ensures.named was.results))

-- ---- the run

pub meet-requires-2-clause-flush : goal.meet-requires-2-clause-flush
meet-requires-2-clause-flush g c = note_marked g.P.ServiceSide.side g.P.ServiceSide.table g.P.ServiceSide.mark g.P.ServiceSide.note_of g.N.Naming.plans (table_at g.N.Naming.words) (book_at g.N.Naming.books) c.run.inside.carried c.run.inside.side c.run.inside.note c.run.invariant

pub invariant_of-run-in-Invalid : goal.invariant_of-run-in-Invalid
invariant_of-run-in-Invalid g c =
    let S = g.P.ServiceSide in
    let p = g.N.Naming.plans in
    let tables = table_at g.N.Naming.words in
    let books = book_at g.N.Naming.books in
    let same = (refused g (goal.at.invariant_of-run-in-Invalid g c).In-Invalid).run in
    let met = met_fits S.side S.table S.mark S.note_of p tables books c.run.inside.carried c.run.inside.side c.meet.new.side c.run.inside.note c.run.invariant c.meet.ensures.told c.meet.ensures.bounded c.meet.ensures.table in
    subst (λ (run : RunData). RunFits S.side S.table S.mark S.note_of p tables books run c.meet.new.side c.meet.new.note) (sym same)
    (subst (RunFits S.side S.table S.mark S.note_of p tables books c.run.inside.carried c.meet.new.side) (sym c.meet.ensures.met) met)

pub invariant_of-run-2 : goal.invariant_of-run-2
invariant_of-run-2 g c =
    let S = g.P.ServiceSide in
    let p = g.N.Naming.plans in
    let tables = table_at g.N.Naming.words in
    let books = book_at g.N.Naming.books in
    let core = c.self.inside.core in
    let now = c.step.new.self in
    let run = c.run.inside.carried in
    let words = c.args.fetched.now.words in
    let was = c.self.invariant in
    let is = made g (goal.at.invariant_of-run-2 g c).In-Done in
    let own = is.stepped in
    let grows = own.event in
    let run_of : IsRunOf p core.past run = subst (λ (q : PlansData). IsRunOf q core.past run) was.plans (c.in_ok-step.ensures.away.shows is.still_open) in
    let now_of : IsRunOf p now.past c.step.new.run = subst (λ (q : PlansData). IsRunOf q now.past c.step.new.run) (grows.plans ∙ was.plans) own.run in
    let asked : c.in-Done.acted.effect ≡ asked_by p run.stream words (world p core.past) = subst (λ (q : PlansData). c.in-Done.acted.effect ≡ asked_by q run.stream words (world q core.past)) was.plans own.acted.effect in
    let met = met_fits S.side S.table S.mark S.note_of p tables books run c.run.inside.side c.meet-2.new.side c.run.inside.note c.run.invariant c.meet-2.ensures.told c.meet-2.ensures.bounded c.meet-2.ensures.table in
    let next : AreNext run.facts (S.side c.meet-2.new.side).fetched words = subst (λ (l : List (ℕ × ℕ)). AreNext run.facts l words) (sym c.meet-2.ensures.list)
    (subst (λ (o : OutData g.row.P.Denot g.row.P-Note.Denot). AreNext o.run.facts (S.side o.side).fetched words) (sym c.run.view_is) c.requires.list) in
    subst (RunFits S.side S.table S.mark S.note_of p tables books c.step.new.run c.tell.new.side) (sym c.meet-2.ensures.met)
    (stepped_fits S.side S.table S.mark S.note_of p tables books run c.step.new.run c.meet-2.new.side c.tell.new.side words c.in-Done.acted.effect c.in-Done.acted.kept core.past now.past met next c.tell.ensures.side c.tell.ensures.table grows.past asked run_of own.moved now_of)

-- ---- the answer

-- what is beside the run stays where its side does
unmoved : {Side Note Results Words : Type 0} (side : Side → SideData) (belongs : Side → Words → Type 0) (note_belongs : Side → Words → Note → Type 0) (results_belong : Words → Results → Type 0) (words : Words) (old new : HouseData Side Note Results) (out left : OutData Side Note) → belongs out.side words
    → ResultsBelong results_belong words old.results out.run.stream → new.slots ≡ old.slots → new.results ≡ old.results → left.side ≡ out.side → KeepsBeside side belongs note_belongs results_belong words old new out left
unmoved side belongs note_belongs results_belong words old new out left beside results slots same is = record {
  slots = slots;
  results = wrote_none results_belong words old.results new.results out.run.stream same results;
  still = subst (StillBelongs belongs note_belongs words out.side) (sym is) record { beside = beside; notes = λ n its. its };
  list = ap (λ x. (side x).fetched) is;
}

pub returns-in_err-take_room-clause-keeps : goal.returns-in_err-take_room-clause-keeps
returns-in_err-take_room-clause-keeps g c = unmoved _ _ _ _ _ _ _ _ _ c.requires.beside c.requires.results (ap (λ h. h.slots) c.self.view_is) (ap (λ h. h.results) c.self.view_is) refl

pub returns-in_err-step-clause-keeps : goal.returns-in_err-step-clause-keeps
returns-in_err-step-clause-keeps g c = unmoved _ _ _ _ _ _ _ _ _ c.requires.beside c.requires.results (ap (λ h. h.slots) c.self.view_is) (ap (λ h. h.results) c.self.view_is) (ap (λ o. o.side) c.run.view_is)

pub returns-in-Lost-clause-keeps : goal.returns-in-Lost-clause-keeps
returns-in-Lost-clause-keeps g c = unmoved _ _ _ _ _ _ _ _ _ c.requires.beside c.requires.results (ap (λ h. h.slots) c.self.view_is) (ap (λ h. h.results) c.self.view_is) (ap (λ o. o.side) c.run.view_is)

pub returns-in-Closed-clause-keeps : goal.returns-in-Closed-clause-keeps
returns-in-Closed-clause-keeps g c = unmoved _ _ _ _ _ _ _ _ _ c.requires.beside c.requires.results (ap (λ h. h.slots) c.self.view_is) (ap (λ h. h.results) c.self.view_is) (ap (λ o. o.side) c.run.view_is)

pub returns-in-Invalid-clause-keeps : goal.returns-in-Invalid-clause-keeps
returns-in-Invalid-clause-keeps g c =
    let S = g.P.ServiceSide in
    record {
      slots = ap (λ h. h.slots) c.self.view_is;
      results = wrote_none S.results_belong c.args.words.now c.args.self.now.results c.self.inside.results.items c.args.run.now.run.stream (ap (λ h. h.results) c.self.view_is) c.requires.results;
      still = subst (λ (o : OutData g.row.P.Denot g.row.P-Note.Denot). StillBelongs S.belongs S.note_belongs c.args.words.now o.side c.meet.new.side) c.run.view_is c.meet.ensures.still;
      list = c.meet.ensures.list ∙ ap (λ o. (S.side o.side).fetched) c.run.view_is;
    }

pub returns-clause-keeps : goal.returns-clause-keeps
returns-clause-keeps g c =
    let S = g.P.ServiceSide in
    let there = (goal.at.returns-clause-keeps g c).After-stream-stream in
    let met = c.meet-2.ensures.still in
    let told = c.tell.ensures.still in
    record {
      slots = ap (λ h. h.slots) c.self.view_is;
      results = wrote S.results_belong c.args.words.now c.args.self.now.results c.self.inside.results.items c.args.run.now.run.stream c.stream-stream.result c.tell.new.results
          (ap (λ h. h.results) c.self.view_is) (its g there ∙ ap (λ r. r.run.stream) c.run.view_is) (known g there) c.tell.ensures.belong;
      still = subst (λ (o : OutData g.row.P.Denot g.row.P-Note.Denot). StillBelongs S.belongs S.note_belongs c.args.words.now o.side c.tell.new.side) c.run.view_is
          record { beside = told.beside; notes = λ n belongs. told.notes n (met.notes n belongs) };
      list = ap (λ d. d.fetched) c.tell.ensures.side ∙ told_list c.in-Done.acted.effect (S.side c.meet-2.new.side) ∙ c.meet-2.ensures.list ∙ ap (λ o. (S.side o.side).fetched) c.run.view_is;
    }

-- the house and the run after a step
module _ (g : Over) (c : goal.After-drawn_of g) where
  abbrev house : HouseData g.row.P.Denot g.row.P-Note.Denot g.row.P-Results.Denot
  house = record { core = c.step.new.self; slots = c.self.inside.slots.items; results = slice_set c.self.inside.results.items (c.stream-stream.result - 1) c.tell.new.results }

  abbrev left : OutData g.row.P.Denot g.row.P-Note.Denot
  left = record { run = c.step.new.run; side = c.tell.new.side; note = c.meet-2.new.note }

  done : IsRunStepDone g.P.ServiceSide.side g.P.ServiceSide.mark g.N.Naming.plans c.args.self.now house c.args.run.now left c.args.fetched.now.words c.in-Done.acted.kept
  done =
      let path = goal.at.After-drawn_of g c in
      let core = c.self.inside.core in
      let run = c.run.inside.carried in
      let side = g.P.ServiceSide.side in
      let note = c.run.inside.note in
      let acted = c.in-Done.acted in
      let is = made g path.In-Done in
      let own = is.stepped in
      seen g path.After-step (λ q h o. IsRunStepDone side g.P.ServiceSide.mark q h house o left c.args.fetched.now.words acted.kept) record {
        still_open = is.still_open;
        valid = is.valid;
        kept = own.acted.kept ∙ ap (step_keeps core.plans core.past run.stream) own.acted.effect;
        event = own.event.past;
        moved = own.moved;
        run = subst (λ (q : PlansData). IsRunOf q c.step.new.self.past c.step.new.run) own.event.plans own.run;
        outs = own.outs;
        told = c.tell.ensures.side ∙ ap (told_side acted.effect) c.meet-2.ensures.told ∙ ap (λ (e : Effect). told_side e (met_by (option_map g.P.ServiceSide.mark note) (side c.run.inside.side))) own.acted.effect;
        met = c.meet-2.ensures.met;
      }

  executed : WasExecuted g.N.Naming.plans c.args.self.now.core.past c.args.run.now.run.stream c.args.fetched.now.words c.in-Done.acted
  executed =
      let path = goal.at.After-drawn_of g c in
      seen g path.After-step (λ q h o. WasExecuted q h.core.past o.run.stream c.args.fetched.now.words c.in-Done.acted) (made g path.In-Done).stepped.acted

pub returns-clause-steps : goal.returns-clause-steps
returns-clause-steps g c =
    let side = g.P.ServiceSide.side in
    let mark = g.P.ServiceSide.mark in
    let p = g.N.Naming.plans in
    let h = c.args.self.now.core.past in
    let s = c.args.run.now.run.stream in
    let words = c.args.fetched.now.words in
    let next = c.next_of.result in
    let acted = c.in-Done.acted in
    let drawn = c.drawn_of.result in
    let done_by : (b : Bool) → acted.kept ≡ b → IsRunStepDone side mark p c.args.self.now (house g c) c.args.run.now (left g c) words b =
    λ b e. subst (IsRunStepDone side mark p c.args.self.now (house g c) c.args.run.now (left g c) words) e (done g c) in
    record {
      steps = goes_on (Steps side mark p c.args.self.now (house g c) c.args.run.now (left g c) words) next acted.kept c.at_end.result c.next_of.ensures (done_by true) (done_by false) (done_by false);
      end = ends next acted.kept c.at_end.result c.step.new.run.facts.get c.step.new.run.facts.put c.next_of.ensures c.at_end.ensures.value;
      drawn = drawn_where next acted.kept c.at_end.result drawn c.next_of.ensures ∙ ap (drawn_if next) (c.drawn_of.ensures ∙ told_drawn p h s words acted (executed g c));
      draws = subst (λ (new : List Event). Draws (replay p h) (replay p new) drawn) (sym (done g c).event)
          (subst (Draws (replay p h) (replay p (Step s words ∷ h))) (sym c.drawn_of.ensures) (draws_step p h s words acted (executed g c)));
    }

-- ---- the step was refused

pub returns-in-Invalid-clause-steps : goal.returns-in-Invalid-clause-steps
returns-in-Invalid-clause-steps g c =
    let side = g.P.ServiceSide.side in
    let mark = g.P.ServiceSide.mark in
    let p = g.N.Naming.plans in
    let s = c.run.inside.carried.stream in
    let words = c.args.fetched.now.words in
    let error = c.in-Invalid.error in
    let path = goal.at.returns-in-Invalid-clause-steps g c in
    let is = refused g path.In-Invalid in
    let house : HouseData g.row.P.Denot g.row.P-Note.Denot g.row.P-Results.Denot = record { core = c.step.new.self; slots = c.self.inside.slots.items; results = c.self.inside.results.items } in
    let left : OutData g.row.P.Denot g.row.P-Note.Denot = record { run = c.step.new.run; side = c.meet.new.side; note = c.meet.new.note } in
    let as_seen : IsRefused side mark p c.args.self.now house c.args.run.now left words error = seen g path.After-step (λ q h o. IsRefused side mark q h house o left words error)
    record { still_open = is.still_open; verdict = is.verdict; event = is.event.past; run = is.run; outs = is.outs; told = c.meet.ensures.told; met = c.meet.ensures.met } in
    subst (TookStep side mark p c.args.self.now house c.args.run.now left words) (sym c.without_step-in-Invalid.ensures) record {
      steps = as_seen;
      end = (λ q. absurd (cc), λ q. absurd (cc));
      drawn = refl;
      draws = draws_lost p c.args.self.now.core.past c.step.new.self.past s (Error error) words (is.event.past ∙ ap (λ h. Lost s (Error error) words ∷ h.core.past) c.self.view_is);
    }
