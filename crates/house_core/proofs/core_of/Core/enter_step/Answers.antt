use Rattle.std.proofs.Common.{◌≡◌, ◌-◌, ℕ, List, ◌∷◌, get_or, set, refl, ap, sym, subst, ◌∙◌, arith}
use Rattle.sync_core.specs.Core.{StandsFor}
use Rattle.sync_core.specs.Events.{happened}
use Rattle.stream_state.specs.declared.effect.Effect.{Effect}
use Rattle.stream_state.specs.State.{State, noted}
use Rattle.stream_state.specs.Steps.{stepped}
use Rattle.gpu_store.specs.Images.{Pictures}
use Rattle.gpu_plan.specs.Plans.{plan_of}
use Rattle.gpu_journal.specs.declared.event.Event.{Event}
use Rattle.gpu_journal.specs.declared.event.Event.TheVariants.{Step}
use Rattle.gpu_journal.specs.World.{world, asked_by, drawn_by}
use Rattle.gpu_journal.specs.Waits.{deed_asked, sync_of}
use Rattle.gpu_journal.specs.Facts.{verdict_at}
use Rattle.gpu_journal.specs.Legal.{Obeys}
use Rattle.serial_laws.proofs.Needs.{need_step}
use Rattle.serial_laws.proofs.Knowns.{step_images}
use Rattle.step_parts.specs.declared.acted.Acted.{Acted}
use Rattle.house_core.specs.Desks.{Out, DeskData, RunData, desk_at, run_of}
use Rattle.house_core.specs.Answers.{WasExecuted, IsMovedBy, HasStepped}
use Rattle.house_core.specs.Stepping.{stepped_desk}
use Rattle.house_core.specs.Core.{CoreData, IsRunOf, books_of, outs_of, with_out}
use Rattle.house_core.specs.Invariant.{Parts, DeskFits, seen}
use Rattle.house_core.proofs.Rows.{books_stay, outs_set}
use Rattle.house_core.proofs.Again.{Place, seats_stay, goes_on}
use Rattle.house_core.proofs.Seen.{parts_of, place_seen}
use Rattle.house_core.proofs.Executing.{ready, executed}
use Rattle.house_core.proofs.AfterStep.{desk_after, IsOut, out_seen, may_step, fits_step, run_after, run_goes_on, run_moves}
use Rattle.house_core.proofs.core_of.Core.enter_step.Goals as goal

pub step-requires-clause-ready : goal.step-requires-clause-ready
step-requires-clause-ready c =
    let now = parts_of c.self.inside in
    let run = c.args.run.now in
    let words = c.args.words.now in
    let desk = c.index_mut-desk.result.now in
    let at = place_seen now _ run.stream c.self.view_is c.self.invariant c.requires.own.plan.known in
    let place = subst (Place now) (sym c.stream-stream.ensures) at in
    let obeys = subst (λ (v : CoreData). Obeys v.plans v.past (Step run.stream words)) (sym c.self.view_is) c.requires.obeys in
    let verdict = ap (λ (v : CoreData). verdict_at v.plans v.past run.stream words) c.self.view_is ∙ c.requires.command in
    let same = sym c.stream-stream.ensures in
    ready now _ desk c.self.invariant place refl (c.index_mut-desk.ensures.value ∙ place.there _)
    (subst (λ (s : ℕ). Obeys now.plans now.past (Step s words)) same obeys)
    (ap (λ (s : ℕ). verdict_at now.plans now.past s words) c.stream-stream.ensures ∙ verdict)

module _ (c : goal.After-push) where
  abbrev now : Parts
  now = parts_of c.self.inside

  abbrev run : RunData
  run = c.args.run.now

  abbrev acted : Acted
  acted = c.in_ok-acted.acted

  abbrev event : Event
  event = Step run.stream c.args.words.now

  out : IsOut now run
  out = out_seen now _ run c.args.words.now c.self.view_is c.self.invariant c.requires.own c.requires.away c.requires.going c.requires.obeys

  read : c.index_mut-desk.result.now ≡ desk_at now.desks run.stream
  read = c.index_mut-desk.ensures.value ∙ ap (λ (s : ℕ). get_or now.desks (s - 1) c.index_mut-desk.result.now) c.stream-stream.ensures ∙ out.place.there _

  obeys : Obeys now.plans now.past event
  obeys = subst (λ (v : CoreData). Obeys v.plans v.past event) (sym c.self.view_is) c.requires.obeys

  told : WasExecuted now.plans now.past run.stream c.args.words.now acted
  told =
      let place = subst (Place now) (sym c.stream-stream.ensures) out.place in
      let state = ap (λ (desk : DeskData). desk.state) (c.index_mut-desk.ensures.value ∙ place.there _) ∙ place.fits.state in
      let here = executed now _ _ _ _ _ acted c.self.invariant place refl refl state c.in_ok-acted.ensures.acts.executes in
      subst (λ (s : ℕ). WasExecuted now.plans now.past s c.args.words.now acted) c.stream-stream.ensures here

  came : c.step.new.desk ≡ desk_after now.plans run.stream c.args.words.now acted (desk_at now.desks run.stream)
  came =
      c.in_ok-acted.ensures.desk ∙ ap (λ (left : State). stepped_desk left acted run.order c.index_mut-desk.result.now) c.in_ok-acted.ensures.acts.executes.state
      ∙ (λ i. stepped_desk (noted acted.answer (stepped (plan_of now.plans (c.stream-stream.ensures i)).areas c.args.words.now (read i).state)) acted (sym out.out i).order (read i))

  -- at the place of the run's stream
  set_there : set now.desks (c.stream-stream.result - 1) c.step.new.desk ≡ set now.desks (run.stream - 1) c.step.new.desk
  set_there = ap (λ (s : ℕ). set now.desks (s - 1) c.step.new.desk) c.stream-stream.ensures

  past : c.push.new.self.events ≡ event ∷ now.past
  past = c.push.ensures.events ∙ (λ i. Step (c.stream-stream.ensures i) (c.of.ensures i) ∷ c.reserve_words.new.self.events) ∙ ap (λ (h : List Event). event ∷ h) (c.reserve_words.ensures.events ∙ c.take_room.ensures.past)

  after : c.step.new.self ≡ run_after now run c.args.words.now acted
  after = c.in_ok-acted.ensures.run ∙ (λ i. run_of run.stream (plan_of now.plans (c.stream-stream.ensures i)).areas run.place run.facts.put (came i))

pub invariant_of-self-2 : goal.invariant_of-self-2
invariant_of-self-2 c =
    let p = (now c).plans in
    let h = (now c).past in
    let s = (run c).stream in
    let words = c.args.words.now in
    let was = c.self.invariant in
    let does = c.in_ok-acted.ensures.acts.executes in
    goes_on (now c) _ (event c) c.step.new.desk was (out c).place record {
      plans = refl;
      past = past c;
      obeys = obeys c;
      stands = subst (λ (effect : Effect). StandsFor c.step.new.scene.sync (happened s (deed_asked p effect) (sync_of p h))) (told c).effect
          (subst (λ (s : ℕ). StandsFor c.step.new.scene.sync (happened s (deed_asked p (acted c).effect) (sync_of p h))) c.stream-stream.ensures (does.scene.waits (sync_of p h) was.sync));
      count = does.scene.count;
      endings = c.shows_room.ensures;
      images = does.scene.images ∙ ap (λ (effect : Effect). (drawn_by effect (now c).images).images) (told c).effect ∙ ap (λ (images : Pictures). (drawn_by (asked_by p s words (world p h)) images).images) was.images ∙ sym (step_images p h s words);
      owed = let same = need_step p h s words in omega (arith, same);
      spare = let room = c.in_ok-take_room.ensures.room in let same = c.reserve_words.ensures.spare in let left = c.push.ensures.spare in omega (arith, room, same, left);
      desks = set_there c;
      seats = seats_stay (now c) s c.step.new.desk (out c).place (ap (λ (desk : DeskData). desk.out.order) (came c));
      fits = subst (DeskFits p (event c ∷ h) s) (sym (came c)) (fits_step p h s words (acted c) (desk_at (now c).desks s) (out c).place.fits (told c) (may_step (now c) (run c) (out c)));
    }

pub returns-clause-stepped : goal.returns-clause-stepped
returns-clause-stepped c =
    let out' = with_out (seen (now c)).outs (run c).stream in
    let desks = set (now c).desks (c.stream-stream.result - 1) c.step.new.desk in
    let core : CoreData = record { plans = (now c).plans; past = c.push.new.self.events; spare = c.push.new.self.spare; books = books_of desks; outs = outs_of desks } in
    subst (λ (v : CoreData). HasStepped v core (run c) c.step.new.self c.args.words.now (acted c)) c.self.view_is record {
      event = record {
        plans = refl;
        past = past c;
        books = ap books_of (set_there c) ∙ books_stay (now c).desks (run c).stream c.step.new.desk (out c).place.desk (ap (λ (desk : DeskData). desk.book) (came c));
      };
      acted = told c;
      outs = ap outs_of (set_there c) ∙ outs_set (now c).desks (run c).stream c.step.new.desk ∙ ap (λ (desk : DeskData). out' desk.out) (came c)
          ∙ ap (λ (out : Out). out' (record { order = out.order; paused = (acted c).kept })) (out c).out;
      moved = subst (λ (new : RunData). IsMovedBy (run c) new c.args.words.now (acted c).kept) (sym (after c)) (run_moves (now c) (run c) c.args.words.now (acted c) c.self.invariant (out c) (obeys c));
      run = subst (λ (h : List Event). IsRunOf (now c).plans h c.step.new.self) (sym (past c))
          (subst (IsRunOf (now c).plans (event c ∷ (now c).past)) (sym (after c)) (run_goes_on (now c) (run c) c.args.words.now (acted c) c.self.invariant (out c) (obeys c) (told c)));
    }
