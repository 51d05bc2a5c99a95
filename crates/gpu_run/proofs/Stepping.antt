-- The steps of a run that is out.
use Rattle.std.proofs.Common.{◌≡◌, ◌≢◌, ℕ, ◌+◌, ◌-◌, Bool, true, false, not, Option, None, Some, Err, List, ◌∷◌, ◌++◌, length, refl, sym, ap, subst, ◌∙◌, arith, length-append, IsOk}
use Rattle.std.proofs.lemmas.Bool.{ne_eqb, not-true}
use Rattle.std.proofs.lemmas.List.{length-set}
use Rattle.std.proofs.lemmas.List.Elements.{All-weaker}
use Rattle.std.specs.Prelude.{IfSome}
use Rattle.std.specs.List.{All}
use Rattle.gpu_cmd.specs.declared.facts.StreamFacts.{StreamFacts}
use Rattle.gpu_cmd.specs.declared.error.CmdError.{CmdError}
use Rattle.gpu_cmd.specs.Copied.{fetched_places, places_listed}
use Rattle.gpu_plan.specs.Plans.{PlansData}
use Rattle.gpu_fetch.specs.Side.{SideData}
use Rattle.gpu_fetch.specs.Plain.{IsBeside, IsNoteBeside, IsValueOfPlace}
use Rattle.sync_core.specs.Standing.{IsKnown}
use Rattle.gpu_journal.specs.declared.event.Event.{Event}
use Rattle.gpu_journal.specs.declared.event.Event.TheVariants.{Step, Lost}
use Rattle.gpu_journal.specs.declared.event.Why.TheVariants.{Error}
use Rattle.gpu_journal.specs.World.{world, asked_by, stream_in}
use Rattle.gpu_journal.specs.Waits.{standing_of}
use Rattle.gpu_journal.specs.Facts.{facts_at, verdict_at}
use Rattle.gpu_journal.specs.Legal.{IsLegal}
use Rattle.gpu_journal.specs.Serial.{count, stays, is_runnable, next_words}
use Rattle.serial_laws.proofs.Obeying.{CanRun, can_run}
use Rattle.serial_laws.specs.Runs.{MayGoOn, step_keeps}
use Rattle.serial_laws.proofs.Fronts.{left_open}
use Rattle.serial_laws.proofs.Going.{run_begins, lost_ends}
use Rattle.serial_laws.proofs.Runs.{step_runs}
use Rattle.house_core.specs.Core.{is_home, with_out, IsRunOf}
use Rattle.house_core.specs.Desks.{Out, RunData, at_home}
use Rattle.house_core.specs.Answers.{IsMovedBy}
use Rattle.gpu_house.specs.Slots.{SlotData, slot_at}
use Rattle.gpu_house.specs.House.{OutData}
use Rattle.gpu_house.specs.Changes.{with_side}
use Rattle.gpu_house.specs.Steps.{Steps}
use Rattle.gpu_house.specs.declared.answers.Next.{Next}
use Rattle.gpu_house.specs.declared.answers.Next.TheVariants.{More, Paused, FlushEnd, Invalid, Closed}
use Rattle.gpu_house.specs.declared.answers.Next.TheVariants as nexts
use Rattle.gpu_house.proofs.Going.{goes_further, not_lost, not_closed}
use Rattle.gpu_run.specs.Clients.{RunClientData, client_of_stream, done_at}
use Rattle.gpu_run.specs.Rounds.{goes_on}
use Rattle.gpu_run.specs.Served.{PlainHouse, AreBeside, IsOrderedClient, HaveOneEach, IsAtHomeWith, IsServed, IsOut}
use Rattle.gpu_run.specs.Turning.{IsTakenBack, HasTakenNext}
use Rattle.gpu_run.proofs.Rows.{home_apart}
use Rattle.gpu_run.proofs.Serving.{if_some, client_on, has_event, stays_so, other_home}
use Rattle.gpu_run.proofs.Turns.{IsRun, run_ordered}
use Rattle.gpu_run.proofs.RunEvents.{next_is_found, event_step, event_lost}
use Rattle.gpu_run.proofs.Homing.{home_served}

-- ---- a run that fetched its next command

-- the facts once the words of the next command are fetched
pub record HasFetched (p : PlansData) (house : PlainHouse) (clients : List RunClientData) (run : OutData SideData ℕ) (words : List (ℕ × ℕ)) : Type 0 where
  pub many : HaveOneEach p house clients
  pub others : (t : ℕ) → IsKnown (length p.plans) t → t ≢ run.run.stream → IsAtHomeWith p house clients t
  pub is_known : IsKnown (length p.plans) run.run.stream
  pub client : IsOrderedClient p house.core.past run.run.stream (client_of_stream clients run.run.stream).words
  pub its_run : IsRunOf p house.core.past run.run
  pub going : run.run.paused ≡ false
  pub list : length run.side.fetched ≡ run.run.facts.fetched + length words
  pub beside : AreBeside (client_of_stream clients run.run.stream).words run.note (slot_at house.slots run.run.stream).notes run.side
  pub its_words : words ≡ next_words p house.core.past run.run.stream
  pub more : (facts_at p house.core.past run.run.stream).get ≢ (facts_at p house.core.past run.run.stream).put

pub has_fetched : (p : PlansData) (house : PlainHouse) (clients : List RunClientData) (run new : OutData SideData ℕ) (words : List (ℕ × ℕ)) → IsOut p house clients run → done_at clients run.run.stream ≡ count p house.core.past run.run.stream → run.run.facts.get ≢ run.run.facts.put
    → new.run ≡ run.run → new.note ≡ None → new.side.fetched ≡ run.side.fetched ++ words → All (IsValueOfPlace (client_of_stream clients run.run.stream).words) words → places_listed words ≡ fetched_places words run.run.facts
    → IsBeside new.side (client_of_stream clients run.run.stream).words → ((n : ℕ) → IsNoteBeside run.side (client_of_stream clients run.run.stream).words n → IsNoteBeside new.side (client_of_stream clients run.run.stream).words n) → HasFetched p house clients new words
has_fetched p house clients run new words out there more same met grows held places beside notes =
    let s = run.run.stream in
    let h = house.core.past in
    let w = (client_of_stream clients s).words in
    let is : (let x : OutData SideData ℕ = record { run = run.run; side = new.side; note = new.note } in x) ≡ new = λ i. record { run = sym same i; side = new.side; note = new.note } in
    subst (λ (x : OutData SideData ℕ). HasFetched p house clients x words) is record {
      many = out.many;
      others = out.others;
      is_known = out.is_known;
      client = out.client;
      its_run = out.run;
      going = out.going;
      list = let l = ap length grows in let sum = length-append run.side.fetched words in let old = out.list in omega (arith, l, sum, old);
      beside = record {
        side_beside = beside;
        first_beside = subst (λ (o : Option ℕ). IfSome o (IsNoteBeside new.side w)) (sym met) tt;
        notes_beside = All-weaker (IsNoteBeside run.side w) (IsNoteBeside new.side w) notes (slot_at house.slots s).notes out.beside.notes_beside;
      };
      its_words = next_is_found p h s w words run.run.facts places held out.client.plan there out.run.facts;
      more = subst (λ (f : StreamFacts). f.get ≢ f.put) out.run.facts more;
    }

-- ---- its step

module _ (p : PlansData) (house new : PlainHouse) (clients : List RunClientData) (run now : OutData SideData ℕ) (words : List (ℕ × ℕ)) (has : HasFetched p house clients run words) where
  abbrev s : ℕ
  s = run.run.stream

  abbrev h : List Event
  h = house.core.past

  -- what holds of the house after an event of the run, whatever it was
  module _ (e : Event) (is_run : IsRun e s) (own : stream_in e ≡ s) (past : new.core.past ≡ e ∷ h) (outs : (t : ℕ) → t ≢ s → is_home new.core.outs t ≡ is_home house.core.outs t) (as_outs : length new.core.outs ≡ length house.core.outs) (slots : new.slots ≡ house.slots)
      (same : now.run.stream ≡ s) (note : now.note ≡ run.note) (side : IsBeside now.side (client_of_stream clients s).words) (notes : (n : ℕ) → IsNoteBeside run.side (client_of_stream clients s).words n → IsNoteBeside now.side (client_of_stream clients s).words n) where
    many_now : HaveOneEach p new clients
    many_now = record { as_clients = has.many.as_clients; as_slots = ap length slots ∙ has.many.as_slots; as_outs = as_outs ∙ has.many.as_outs }

    others_now : (t : ℕ) → IsKnown (length p.plans) t → t ≢ s → IsAtHomeWith p new clients t
    others_now t k off = other_home p house new clients clients t (has_event e past (ne_eqb (stream_in e) t (λ q. off (sym q ∙ own)))) (outs t off) (ap (λ (row : List (SlotData SideData ℕ)). slot_at row t) slots) refl (has.others t k off)

    client_now : IsOrderedClient p new.core.past s (client_of_stream clients s).words
    client_now = subst (λ (g : List Event). IsOrderedClient p g s (client_of_stream clients s).words) (sym past) (client_on p e h s (client_of_stream clients s).words (run_ordered p e s h s is_run) has.client)

    beside_now : AreBeside (client_of_stream clients s).words now.note (slot_at new.slots s).notes now.side
    beside_now =
        let w = (client_of_stream clients s).words in
        subst (λ (o : Option ℕ). AreBeside w o (slot_at new.slots s).notes now.side) (sym note) (subst (λ (row : List (SlotData SideData ℕ)). AreBeside w run.note (slot_at row s).notes now.side) (sym slots) record {
          side_beside = side;
          first_beside = if_some run.note (IsNoteBeside run.side w) (IsNoteBeside now.side w) notes has.beside.first_beside;
          notes_beside = All-weaker (IsNoteBeside run.side w) (IsNoteBeside now.side w) notes (slot_at house.slots s).notes has.beside.notes_beside;
        })

    home_now : (last : PlainHouse) → IsTakenBack new last now → IsServed p last clients
    home_now last back =
        home_served p new last clients s record (slot_at new.slots s) { side = Some now.side; begun = true; first = now.note } has.is_known many_now others_now (λ t off. stays_so back.past)
        (back.outs ∙ ap (λ (u : ℕ). with_out new.core.outs u at_home) same)
        (back.slots ∙ ap (λ (u : ℕ). with_side new.slots u now.side now.note) same)
        (subst (λ (g : List Event). IsOrderedClient p g s (client_of_stream clients s).words) (sym back.past) client_now)
        beside_now

    out_now : IsRunOf p new.core.past now.run → now.run.paused ≡ false → length now.side.fetched ≡ now.run.facts.fetched → IsOut p new clients now
    out_now its_run going list = record {
      many = many_now;
      others = λ t k off. others_now t k (λ q. off (q ∙ sym same));
      is_known = subst (IsKnown (length p.plans)) (sym same) has.is_known;
      client = subst (λ (u : ℕ). IsOrderedClient p new.core.past u (client_of_stream clients u).words) (sym same) client_now;
      run = its_run;
      going = going;
      list = list;
      beside = subst (λ (u : ℕ). AreBeside (client_of_stream clients u).words now.note (slot_at new.slots u).notes now.side) (sym same) beside_now;
    }

  -- ---- each answer of a step

  module _ (legal : IsLegal p h) (runs : is_runnable p h s ≡ true) (slots : new.slots ≡ house.slots) (note : now.note ≡ run.note) (side : IsBeside now.side (client_of_stream clients s).words)
      (notes : (n : ℕ) → IsNoteBeside run.side (client_of_stream clients s).words n → IsNoteBeside now.side (client_of_stream clients s).words n) (list : now.side.fetched ≡ run.side.fetched) where
    can : CanRun p h s
    can = can_run p h s legal runs

    still_open : stays p h s ≡ true
    still_open = (left_open p h s legal can.some).0

    may : MayGoOn p h s run.run.order false
    may = run_begins p h s run.run.order has.its_run.order can.free

    -- a command that was executed
    stepped_done : (kept : Bool) → IsOk (verdict_at p h s words) → kept ≡ step_keeps p h s (asked_by p s words (world p h)) → new.core.past ≡ Step s words ∷ h → IsMovedBy run.run now.run words kept → IsRunOf p new.core.past now.run → (out : Out) → new.core.outs ≡ with_out house.core.outs s out
        → HasTakenNext p house new clients s now (not kept)
    stepped_done kept valid keeping past moved its_run out outs =
        let homes : (t : ℕ) → t ≢ s → is_home new.core.outs t ≡ is_home house.core.outs t = λ t off. ap (λ (row : List Out). is_home row t) outs ∙ home_apart house.core.outs s t out has.is_known.0 off in
        let as_outs : length new.core.outs ≡ length house.core.outs = ap length outs ∙ length-set house.core.outs (s - 1) out in
        let fetches : length now.side.fetched ≡ now.run.facts.fetched = (let l = ap length list in let old = has.list in let more = moved.fetched in omega (arith, l, old, more)) in
        let going : not kept ≡ is_runnable p (Step s words ∷ h) s = ap not keeping ∙ sym (step_runs p h s words run.run.order record { known = has.is_known; stays = still_open } may) in
        record {
          event = past ∙ ap (λ (e : Event). e ∷ h) (sym (event_step p h s words has.its_words has.more valid));
          goes = subst (λ (g : List Event). not kept ≡ goes_on p g s) (sym past) going;
          same = moved.stream;
          on = λ m. out_now (Step s words) refl refl past homes as_outs slots moved.stream note side notes its_run (moved.paused ∙ not-true kept m) fetches;
          list = λ _. fetches;
          home = home_now (Step s words) refl refl past homes as_outs slots moved.stream note side notes;
        }

    -- a command that was invalid
    stepped_lost : (error : CmdError) → verdict_at p h s words ≡ Err error → new.core.past ≡ Lost s (Error error) words ∷ h → now.run ≡ run.run → new.core.outs ≡ house.core.outs → HasTakenNext p house new clients s now false
    stepped_lost error refused past same outs =
        let stream : now.run.stream ≡ s = ap (λ (r : RunData). r.stream) same in
        record {
          event = past ∙ ap (λ (e : Event). e ∷ h) (sym (event_lost p h s words error has.its_words has.more refused));
          goes = subst (λ (g : List Event). false ≡ goes_on p g s) (sym past) refl;
          same = stream;
          on = λ m. absurd (cc);
          list = λ o.
              let ends : stays p new.core.past now.run.stream ≡ false = subst (λ (u : ℕ). stays p new.core.past u ≡ false) (sym stream) (subst (λ (g : List Event). stays p g s ≡ false) (sym past) (lost_ends p h s (Error error) words)) in
              absurd (cc);
          home = home_now (Lost s (Error error) words) refl refl past (λ t off. ap (λ (row : List Out). is_home row t) outs) (ap length outs) slots stream note side notes;
        }

    -- whatever was answered
    pub has_stepped : (side : SideData → SideData) (mark : ℕ → ℕ) (next : Next) → Steps side mark p house new run now words next → HasTakenNext p house new clients s now (goes_further next)
    has_stepped side mark More is = stepped_done false is.valid is.kept is.event is.moved is.run record { order = run.run.order; paused = false } is.outs
    has_stepped side mark Paused is = stepped_done true is.valid is.kept is.event is.moved is.run record { order = run.run.order; paused = true } is.outs
    has_stepped side mark FlushEnd is = stepped_done false is.valid is.kept is.event is.moved is.run record { order = run.run.order; paused = false } is.outs
    has_stepped side mark (Invalid error) is = stepped_lost error is.verdict is.event is.run is.outs
    has_stepped side mark nexts.Lost is = absurd (not_lost (standing_of p h s) still_open is.is_over)
    has_stepped side mark Closed is = absurd (not_closed (standing_of p h s) still_open is.is_over.1)
