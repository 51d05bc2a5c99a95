-- One turn of a run, in the terms of the code.
use Rattle.std.proofs.Common.{◌≡◌, ◌≢◌, ℕ, ◌-◌, ◌<◌, ◌≤◌, Bool, true, false, None, Some, List, ◌∷◌, ◌++◌, length, get_or, refl, sym, ap, subst, ◌∙◌, arith}
use Rattle.std.proofs.lemmas.List.Elements.{All-weaker}
use Rattle.std.specs.List.{All}
use Rattle.gpu_cmd.specs.declared.facts.StreamFacts.{StreamFacts}
use Rattle.gpu_cmd.specs.declared.command.Command.{Command}
use Rattle.gpu_cmd.specs.declared.error.CmdError.{CmdError}
use Rattle.gpu_cmd.specs.Copied.{IsCopy}
use Rattle.std.specs.Prelude.{Result}
use Rattle.gpu_plan.specs.Plans.{PlansData}
use Rattle.gpu_fetch.specs.Side.{SideData, StillBelongs}
use Rattle.gpu_fetch.specs.Plain.{PlainData, IsBeside, IsNoteBeside, IsValueOfPlace}
use Rattle.sync_core.specs.Standing.{IsKnown, is_open}
use Rattle.gpu_journal.specs.declared.event.Event.{Event}
use Rattle.gpu_journal.specs.declared.event.Event.TheVariants.{Finish}
use Rattle.gpu_journal.specs.Waits.{standing_of}
use Rattle.gpu_journal.specs.Serial.{count, stays, is_runnable, run_event, IsPlayed}
use Rattle.serial_laws.specs.Scripts.{AreLawfulPlans}
use Rattle.serial_laws.proofs.Obeying.{can_run, played_is_legal}
use Rattle.serial_laws.proofs.Fronts.{left_open}
use Rattle.house_core.specs.Core.{with_out}
use Rattle.house_core.specs.Desks.{RunData, at_home}
use Rattle.gpu_house.specs.Slots.{slot_at}
use Rattle.gpu_house.specs.House.{OutData}
use Rattle.gpu_house.specs.Changes.{CameDone}
use Rattle.gpu_house.specs.Fetching.{HasMetNote}
use Rattle.gpu_house.specs.Steps.{Steps}
use Rattle.gpu_house.specs.declared.answers.Next.{Next}
use Rattle.gpu_house.specs.declared.answers.Next.TheVariants.{More, Paused, FlushEnd, Invalid, Lost, Closed}
use Rattle.gpu_house.proofs.Going.{goes_further}
use Rattle.gpu_run.specs.Clients.{RunClientData, client_of_stream, done_at}
use Rattle.gpu_run.specs.Rounds.{goes_on}
use Rattle.gpu_run.specs.Served.{PlainHouse, IsOrderedClient, IsServed}
use Rattle.gpu_run.specs.Turning.{IsInTurn, HasTakenNext, HasRunOut}
use Rattle.gpu_run.proofs.Rows.{client_there}
use Rattle.gpu_run.proofs.Serving.{client_on, has_event}
use Rattle.gpu_run.proofs.AllFound.{found_after}
use Rattle.gpu_run.proofs.Turns.{Ran, run_turn, run_ordered}
use Rattle.gpu_run.proofs.RunEvents.{event_finish}
use Rattle.gpu_run.proofs.Homing.{home_served}
use Rattle.gpu_run.proofs.Stepping.{HasFetched, has_fetched, has_stepped}
use Rattle.std.proofs.lemmas.Bool.{ne_eqb}

-- a stream that can run is open
pub runs_open : (p : PlansData) (h : List Event) (s : ℕ) → AreLawfulPlans p → IsPlayed p h → is_runnable p h s ≡ true → stays p h s ≡ true
runs_open p h s lawful played runs =
    let legal = played_is_legal p h lawful played in
    (left_open p h s legal (can_run p h s legal runs).some).0

-- the words that the code takes are those of the run's client
pub words_are : (p : PlansData) (clients : List RunClientData) (s at : ℕ) (client : RunClientData) (w : PlainData) → IsKnown (length p.plans) s → length clients ≡ length p.plans → at ≡ s → client ≡ get_or clients (at - 1) client → w ≡ client.words → w ≡ (client_of_stream clients s).words
words_are p clients s at client w is_known count same read is =
    let high = is_known.1 in
    let here : client ≡ client_of_stream clients s = read ∙ ap (λ (k : ℕ). get_or clients (k - 1) client) same ∙ client_there clients s client (is_known.0, omega (arith, high, count)) in
    is ∙ ap (λ (c : RunClientData). c.words) here

-- ---- a finish

-- a run ended by the event of the rule, and each stream is served
pub record EndsRun (p : PlansData) (house new : PlainHouse) (clients : List RunClientData) (s : ℕ) : Type 0 where
  pub event : new.core.past ≡ run_event p house.core.past s ∷ house.core.past
  pub goes : false ≡ goes_on p new.core.past s
  pub served : IsServed p new clients

pub has_finished : (p : PlansData) (house new : PlainHouse) (clients : List RunClientData) (run : OutData SideData ℕ) (w : PlainData) → IsInTurn p house clients run
    → w ≡ (client_of_stream clients run.run.stream).words → run.run.facts.get ≡ run.run.facts.put
    → (is_open (standing_of p house.core.past run.run.stream) ≡ true → new.core.past ≡ Finish run.run.stream run.run.order ∷ house.core.past)
    → new.core.outs ≡ with_out house.core.outs run.run.stream at_home
    → (is_open (standing_of p house.core.past run.run.stream) ≡ true → CameDone (λ (x : SideData). x) (λ (n : ℕ). n) IsBeside IsNoteBeside w house.slots new.slots run.run.stream run.side run.note)
    → EndsRun p house new clients run.run.stream
has_finished p house new clients run w turn its_words ends event outs done =
    let s = run.run.stream in
    let h = house.core.past in
    let out = turn.out in
    let o = runs_open p h s turn.lawful turn.played turn.runs in
    let past = event o in
    let came = done o in
    let mine = (client_of_stream clients s).words in
    let slot = slot_at house.slots s in
    record {
      event = past ∙ ap (λ (e : Event). e ∷ h) (sym (event_finish p h s run.run.order out.run.order (subst (λ (f : StreamFacts). f.get ≡ f.put) out.run.facts ends)));
      goes = subst (λ (g : List Event). false ≡ goes_on p g s) (sym past) refl;
      served = home_served p house new clients s record slot { side = Some came.done; begun = false; first = None } out.is_known out.many out.others (λ t off. has_event (Finish s run.run.order) past (ne_eqb s t (λ q. off (sym q))))
          outs came.slots (subst (λ (g : List Event). IsOrderedClient p g s mine) (sym past) (client_on p (Finish s run.run.order) h s mine (run_ordered p (Finish s run.run.order) s h s refl) out.client))
          record {
            side_beside = subst (IsBeside came.done) its_words came.still.beside;
            first_beside = tt;
            notes_beside = All-weaker (IsNoteBeside run.side mine) (IsNoteBeside came.done mine) (λ n b. subst (λ (v : PlainData). IsNoteBeside came.done v n) its_words (came.still.notes n (subst (λ (v : PlainData). IsNoteBeside run.side v n) (sym its_words) b))) slot.notes out.beside.notes_beside;
          };
    }

-- ---- a fetch

-- where the rule has the client of a stream that runs
pub there_of : (p : PlansData) (house : PlainHouse) (clients : List RunClientData) (run : OutData SideData ℕ) → IsInTurn p house clients run → done_at clients run.run.stream ≡ count p house.core.past run.run.stream
there_of p house clients run turn = turn.running.there run.run.stream turn.out.is_known.0 turn.out.is_known.1 (runs_open p house.core.past run.run.stream turn.lawful turn.played turn.runs)

pub fetched_with : (p : PlansData) (house : PlainHouse) (clients : List RunClientData) (run new : OutData SideData ℕ) (words : List (ℕ × ℕ)) (verdict : Result Command CmdError) (w : PlainData) → IsInTurn p house clients run
    → w ≡ (client_of_stream clients run.run.stream).words → run.run.facts.get ≢ run.run.facts.put → HasMetNote IsBeside IsNoteBeside w run new → new.side.fetched ≡ run.side.fetched ++ words → All (IsValueOfPlace w) words → IsCopy words run.run.facts verdict → HasFetched p house clients new words
fetched_with p house clients run new words verdict w turn is more has grows held copy =
    let mine = (client_of_stream clients run.run.stream).words in
    let still : StillBelongs IsBeside IsNoteBeside mine run.side new.side = subst (λ (v : PlainData). StillBelongs IsBeside IsNoteBeside v run.side new.side) is has.still in
    has_fetched p house clients run new words turn.out (there_of p house clients run turn) more has.run has.met grows (subst (λ (v : PlainData). All (IsValueOfPlace v) words) is held) copy.places still.beside still.notes

-- the note that a fetch has met is met after the step
pub stays_met : (side : SideData → SideData) (mark : ℕ → ℕ) (p : PlansData) (house new : PlainHouse) (run now : OutData SideData ℕ) (words : List (ℕ × ℕ)) (next : Next) → run.note ≡ None → Steps side mark p house new run now words next → now.note ≡ run.note
stays_met side mark p house new run now words More met is = is.met ∙ sym met
stays_met side mark p house new run now words Paused met is = is.met ∙ sym met
stays_met side mark p house new run now words FlushEnd met is = is.met ∙ sym met
stays_met side mark p house new run now words (Invalid error) met is = is.met ∙ sym met
stays_met side mark p house new run now words Lost met is = ap (λ (r : OutData SideData ℕ). r.note) is.run
stays_met side mark p house new run now words Closed met is = ap (λ (r : OutData SideData ℕ). r.note) is.run

-- ---- the step on what was fetched

pub stepped_with : (p : PlansData) (house new : PlainHouse) (clients : List RunClientData) (out run now : OutData SideData ℕ) (words : List (ℕ × ℕ)) (w : PlainData) (next : Next) (more : Bool) → IsInTurn p house clients out
    → HasFetched p house clients run words → run.run ≡ out.run → run.note ≡ None → w ≡ (client_of_stream clients out.run.stream).words → (side : SideData → SideData) (mark : ℕ → ℕ) → Steps side mark p house new run now words next → new.slots ≡ house.slots
    → StillBelongs IsBeside IsNoteBeside w run.side now.side → now.side.fetched ≡ run.side.fetched → more ≡ goes_further next → HasTakenNext p house new clients out.run.stream now more
stepped_with p house new clients out run now words w next more turn has same met is side mark steps slots still list answer =
    let stream : run.run.stream ≡ out.run.stream = ap (λ (r : RunData). r.stream) same in
    let here : w ≡ (client_of_stream clients run.run.stream).words = is ∙ ap (λ (u : ℕ). (client_of_stream clients u).words) (sym stream) in
    let mine = (client_of_stream clients run.run.stream).words in
    let belongs : StillBelongs IsBeside IsNoteBeside mine run.side now.side = subst (λ (v : PlainData). StillBelongs IsBeside IsNoteBeside v run.side now.side) here still in
    let stepped = has_stepped p house new clients run now words has (played_is_legal p house.core.past turn.lawful turn.played) (subst (λ (u : ℕ). is_runnable p house.core.past u ≡ true) (sym stream) turn.runs)
    slots (stays_met side mark p house new run now words next met steps) belongs.beside belongs.notes list side mark next steps in
    subst (λ (u : ℕ). HasTakenNext p house new clients u now more) stream (subst (HasTakenNext p house new clients run.run.stream now) (sym answer) stepped)

-- ---- the loop over turns

pub ran : (p : PlansData) (house : PlainHouse) (g : List Event) (clients : List RunClientData) (run : OutData SideData ℕ) → IsInTurn p house clients run → g ≡ run_event p house.core.past run.run.stream ∷ house.core.past → Ran p g (done_at clients) run.run.stream
ran p house g clients run turn event =
    subst (λ (x : List Event). Ran p x (done_at clients) run.run.stream) (sym event)
    (run_turn p house.core.past (done_at clients) run.run.stream turn.played turn.running turn.out.is_known.0 turn.out.is_known.1 turn.chosen)

pub one_longer : (e : Event) (h g : List Event) → g ≡ e ∷ h → length h < length g
one_longer e h g event = let l = ap length event in omega (arith, l)

-- a run that does not go on: what its last event leaves
pub run_out : (p : PlansData) (first house last : PlainHouse) (clients : List RunClientData) (run : OutData SideData ℕ) → IsInTurn p house clients run → EndsRun p house last clients run.run.stream → length first.core.past ≤ length house.core.past → HasRunOut p first last clients
run_out p first house last clients run turn ended longer =
    let h = house.core.past in
    let g = last.core.past in
    let t = ran p house g clients run turn ended.event in
    let l = one_longer (run_event p h run.run.stream) h g ended.event in
    let stopped = t.stopped (sym ended.goes) in
    record {
      played = t.played;
      served = ended.served;
      read = found_after p h g clients run.run.stream ended.event (there_of p house clients run turn) turn.read;
      chosen = stopped.1;
      running = stopped.0;
      longer = omega (arith, l, longer);
    }
