-- The choice of a run, and the end of a phase of runs.
use Rattle.std.proofs.Common.{◌≡◌, ℕ, ◌≤◌, ◌<◌, ◌⊎◌, inl, inr, true, false, Option, None, Some, List, length, sym, ap, subst, ◌∙◌, arith}
use Rattle.gpu_plan.specs.Plans.{PlansData}
use Rattle.gpu_fetch.specs.Side.{SideData}
use Rattle.gpu_journal.specs.declared.event.Event.{Event}
use Rattle.gpu_journal.specs.Serial.{begins_round, choice, runner, is_runnable, next, IsPlayed}
use Rattle.serial_laws.specs.Choosing.{choice_at_home}
use Rattle.serial_laws.proofs.Choosing.{all_home}
use Rattle.house_core.specs.Core.{is_home, with_out, IsRunOf}
use Rattle.house_core.specs.Desks.{Out}
use Rattle.gpu_house.specs.Slots.{SlotData, slot_at, with_slot, note_ahead, left_slot}
use Rattle.gpu_house.specs.House.{OutData}
use Rattle.gpu_house.specs.Changes.{Same}
use Rattle.gpu_run.specs.Clients.{RunClientData, client_of_stream, done_at}
use Rattle.gpu_run.specs.Rounds.{IsRising, IsRunning}
use Rattle.gpu_run.specs.Served.{PlainHouse, IsServedAt, IsServed, IsOut}
use Rattle.gpu_run.proofs.Turns.{chosen_is, rises, ends_same}
use Rattle.gpu_run.proofs.Homing.{leaves}

-- with all streams at home the scheduler's choice is that of the rule
chosen_home : (p : PlansData) (house : PlainHouse) (clients : List RunClientData) (o : Option ℕ) → IsServed p house clients → o ≡ choice_at_home p house.core.past (is_home house.core.outs) → choice p house.core.past ≡ o
chosen_home p house clients o served e = sym (e ∙ all_home p house.core.past (is_home house.core.outs) (λ t k. (served.each t k).0))

-- what the loop over a run wants
pub record IsTaken (p : PlansData) (new : PlainHouse) (clients : List RunClientData) (out : OutData SideData ℕ) : Type 0 where
  pub played : IsPlayed p new.core.past
  pub out_now : IsOut p new clients out
  pub running : IsRunning p new.core.past (done_at clients)
  pub chosen : runner p new.core.past ≡ Some out.run.stream
  pub runs : is_runnable p new.core.past out.run.stream ≡ true

pub taken : (p : PlansData) (house new : PlainHouse) (clients : List RunClientData) (out : OutData SideData ℕ) → IsServed p house clients → IsPlayed p house.core.past → (begins_round p house.core.past ≡ false → IsRunning p house.core.past (done_at clients)) → runner p house.core.past ≡ choice p house.core.past
    → Some out.run.stream ≡ choice_at_home p house.core.past (is_home house.core.outs) → new.core.past ≡ house.core.past → IsRunOf p house.core.past out.run → out.run.paused ≡ false → Some out.side ≡ (slot_at house.slots out.run.stream).side → out.note ≡ note_ahead (slot_at house.slots out.run.stream)
    → length out.side.fetched ≡ out.run.facts.fetched → new.core.outs ≡ with_out house.core.outs out.run.stream record { order = out.run.order; paused = false } → new.slots ≡ with_slot house.slots out.run.stream (left_slot (slot_at house.slots out.run.stream)) → IsTaken p new clients out
taken p house new clients out served played running chosen choice_is past its_run going side note list outs slots =
    let h = house.core.past in
    let s = out.run.stream in
    let is = chosen_home p house clients (Some s) served choice_is in
    let q = chosen_is p h s is in
    record {
      played = subst (IsPlayed p) (sym past) played;
      out_now = leaves p house new clients out served (q.1, q.2) past its_run going side note list record { order = out.run.order; paused = false } outs slots;
      running = subst (λ (g : List Event). IsRunning p g (done_at clients)) (sym past) (running q.3);
      chosen = subst (λ (g : List Event). runner p g ≡ Some s) (sym past) (chosen ∙ is);
      runs = subst (λ (g : List Event). is_runnable p g s ≡ true) (sym past) q.0;
    }

-- a house in which nothing has changed
served_same : (p : PlansData) (house new : PlainHouse) (clients : List RunClientData) → IsServed p house clients → Same house new → IsServed p new clients
served_same p house new clients served same = record {
  many = record { as_clients = served.many.as_clients; as_slots = ap length same.slots ∙ served.many.as_slots; as_outs = ap length same.outs ∙ served.many.as_outs };
  each = λ t k.
      let own = served.each t k in (
        ap (λ (row : List Out). is_home row t) same.outs ∙ own.0,
        subst (λ (row : List (SlotData SideData ℕ)). IsServedAt p new.core.past t (slot_at row t) (client_of_stream clients t).words) (sym same.slots)
            (subst (λ (g : List Event). IsServedAt p g t (slot_at house.slots t) (client_of_stream clients t).words) (sym same.past) own.1),
      );
}

-- where none is chosen, the phase is over
pub record IsOver (p : PlansData) (first new : List Event) : Type 0 where
  pub rising : IsRising p new
  pub longer : length first ≤ length new
  pub ended : length new ≤ length first → next p new ≡ None

pub none_taken : (p : PlansData) (house new : PlainHouse) (clients : List RunClientData) (first : List Event) → IsServed p house clients → IsPlayed p house.core.past → runner p house.core.past ≡ choice p house.core.past → (house.core.past ≡ first) ⊎ (length first < length house.core.past)
    → IsRunning p first (done_at clients) → None ≡ choice_at_home p house.core.past (is_home house.core.outs) → Same house new → IsOver p first new.core.past × IsServed p new clients
none_taken p house new clients first served played chosen moved running none same =
    let h = house.core.past in
    let is = chosen_home p house clients None served none in
    (subst (IsOver p first) (sym same.past) record { rising = rises p h played chosen is; longer = long moved; ended = λ few. ends_same p first h (done_at clients) moved few running chosen is }, served_same p house new clients served same)
  where
    long : (house.core.past ≡ first) ⊎ (length first < length house.core.past) → length first ≤ length house.core.past
    long (inl is) = let l = ap length is in omega (arith, l)
    long (inr less) = omega (arith, less)
