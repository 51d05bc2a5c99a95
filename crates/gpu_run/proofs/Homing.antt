-- Runs leave their streams, and come home.
use Rattle.std.proofs.Common.{◌≡◌, ◌≢◌, ℕ, ◌-◌, Bool, true, false, cond, Option, Some, List, [], ◌∷◌, length, drop, refl, sym, ap, subst, ◌∙◌, arith}
use Rattle.std.proofs.lemmas.List.{length-set}
use Rattle.std.proofs.lemmas.List.Elements.{All-head, All-tail}
use Rattle.std.specs.Prelude.{slice_get, IfSome}
use Rattle.std.specs.List.{All}
use Rattle.std.specs.Option.{IsSomeAnd}
use Rattle.gpu_plan.specs.Plans.{PlansData}
use Rattle.gpu_fetch.specs.Side.{SideData}
use Rattle.gpu_fetch.specs.Plain.{PlainData, IsNoteBeside}
use Rattle.sync_core.specs.Standing.{IsKnown}
use Rattle.gpu_journal.specs.declared.event.Event.{Event}
use Rattle.house_core.specs.Core.{is_home, with_out, IsRunOf}
use Rattle.house_core.specs.Desks.{Out, at_home}
use Rattle.gpu_house.specs.Slots.{SlotData, slot_at, with_slot, note_ahead, left_slot}
use Rattle.gpu_house.specs.House.{OutData}
use Rattle.gpu_run.specs.Clients.{RunClientData, client_of_stream}
use Rattle.gpu_run.specs.Served.{PlainHouse, AreBeside, IsOrderedClient, IsServedAt, HaveOneEach, IsAtHomeWith, IsServed, IsOut}
use Rattle.gpu_run.proofs.Rows.{slot_same, slot_other, home_apart, home_back}
use Rattle.gpu_run.proofs.Serving.{GoesOn, stays_so, other_home, served_all}

-- the other streams, of which one run is out or comes home
pub others_go_on : (p : PlansData) (house new : PlainHouse) (clients : List RunClientData) (s : ℕ) (out : Out) (slot : SlotData SideData ℕ) → IsKnown (length p.plans) s → ((t : ℕ) → t ≢ s → GoesOn t house.core.past new.core.past) → new.core.outs ≡ with_out house.core.outs s out → new.slots ≡ with_slot house.slots s slot
    → ((t : ℕ) → IsKnown (length p.plans) t → t ≢ s → IsAtHomeWith p house clients t) → (t : ℕ) → IsKnown (length p.plans) t → t ≢ s → IsAtHomeWith p new clients t
others_go_on p house new clients s out slot is_known on outs slots others t k off =
    other_home p house new clients clients t (on t off) (ap (λ (row : List Out). is_home row t) outs ∙ home_apart house.core.outs s t out is_known.0 off)
    (ap (λ (row : List (SlotData SideData ℕ)). slot_at row t) slots ∙ slot_other house.slots s t slot is_known.0 off) refl (others t k off)

pub many_again : (p : PlansData) (house new : PlainHouse) (clients : List RunClientData) (s : ℕ) (out : Out) (slot : SlotData SideData ℕ) → new.core.outs ≡ with_out house.core.outs s out → new.slots ≡ with_slot house.slots s slot → HaveOneEach p house clients → HaveOneEach p new clients
many_again p house new clients s out slot outs slots many = record {
  as_clients = many.as_clients;
  as_slots = ap length slots ∙ length-set house.slots (s - 1) slot ∙ many.as_slots;
  as_outs = ap length outs ∙ length-set house.core.outs (s - 1) out ∙ many.as_outs;
}

-- a side that comes home leaves all streams served
pub home_served : (p : PlansData) (house new : PlainHouse) (clients : List RunClientData) (s : ℕ) (slot : SlotData SideData ℕ) → IsKnown (length p.plans) s → HaveOneEach p house clients → ((t : ℕ) → IsKnown (length p.plans) t → t ≢ s → IsAtHomeWith p house clients t) → ((t : ℕ) → t ≢ s → GoesOn t house.core.past new.core.past)
    → new.core.outs ≡ with_out house.core.outs s at_home → new.slots ≡ with_slot house.slots s slot → IsOrderedClient p new.core.past s (client_of_stream clients s).words → IsSomeAnd slot.side (AreBeside (client_of_stream clients s).words slot.first slot.notes) → IsServed p new clients
home_served p house new clients s slot is_known many others on outs slots client beside =
    let high = is_known.1 in
    let as_outs = many.as_outs in
    let as_slots = many.as_slots in
    let its_slot : slot_at new.slots s ≡ slot = ap (λ (row : List (SlotData SideData ℕ)). slot_at row s) slots ∙ slot_same house.slots s slot (is_known.0, omega (arith, high, as_slots)) in
    served_all p new clients s (many_again p house new clients s at_home slot outs slots many) (
      ap (λ (row : List Out). is_home row s) outs ∙ home_back house.core.outs s (is_known.0, omega (arith, high, as_outs)),
      subst (λ (x : SlotData SideData ℕ). IsServedAt p new.core.past s x (client_of_stream clients s).words) (sym its_slot) record { client = client; beside = beside },
    )
    (others_go_on p house new clients s at_home slot is_known on outs slots others)

-- ---- a run leaves

first_of : (xs : List ℕ) (P : ℕ → Type 0) → All P xs → IfSome (slice_get xs 0) P
first_of [] P all = tt
first_of (x ∷ xs) P all = All-head P x xs all

rest_of : (xs : List ℕ) (P : ℕ → Type 0) → All P xs → All P (drop 1 xs)
rest_of [] P all = all
rest_of (x ∷ xs) P all = All-tail P x xs all

-- with the note of its first order
leaves_beside : (words : PlainData) (slot : SlotData SideData ℕ) (side : SideData) → AreBeside words slot.first slot.notes side → AreBeside words (note_ahead slot) (left_slot slot).notes side
leaves_beside words slot side was = record { side_beside = was.side_beside; first_beside = first slot.begun; notes_beside = notes slot.begun }
  where
    first : (b : Bool) → IfSome (cond b slot.first (slice_get slot.notes 0)) (IsNoteBeside side words)
    first true = was.first_beside
    first false = first_of slot.notes (IsNoteBeside side words) was.notes_beside

    notes : (b : Bool) → All (IsNoteBeside side words) (cond b slot.notes (drop 1 slot.notes))
    notes true = was.notes_beside
    notes false = rest_of slot.notes (IsNoteBeside side words) was.notes_beside

its_side : (words : PlainData) (first : Option ℕ) (notes : List ℕ) (side : Option SideData) (x : SideData) → Some x ≡ side → IsSomeAnd side (AreBeside words first notes) → AreBeside words first notes x
its_side words first notes side x is h = subst (λ (o : Option SideData). IsSomeAnd o (AreBeside words first notes)) (sym is) h

pub leaves : (p : PlansData) (house new : PlainHouse) (clients : List RunClientData) (out : OutData SideData ℕ) → IsServed p house clients → IsKnown (length p.plans) out.run.stream → new.core.past ≡ house.core.past → IsRunOf p house.core.past out.run → out.run.paused ≡ false
    → Some out.side ≡ (slot_at house.slots out.run.stream).side → out.note ≡ note_ahead (slot_at house.slots out.run.stream) → length out.side.fetched ≡ out.run.facts.fetched → (away : Out) → new.core.outs ≡ with_out house.core.outs out.run.stream away → new.slots ≡ with_slot house.slots out.run.stream (left_slot (slot_at house.slots out.run.stream))
    → IsOut p new clients out
leaves p house new clients out served is_known past run going side note list away outs slots =
    let s = out.run.stream in
    let slot = slot_at house.slots s in
    let own = (served.each s is_known).1 in
    let high = is_known.1 in
    let as_slots = served.many.as_slots in
    let words = (client_of_stream clients s).words in
    let its_slot : slot_at new.slots s ≡ left_slot slot = ap (λ (row : List (SlotData SideData ℕ)). slot_at row s) slots ∙ slot_same house.slots s (left_slot slot) (is_known.0, omega (arith, high, as_slots)) in
    let beside : AreBeside words (note_ahead slot) (left_slot slot).notes out.side = leaves_beside words slot out.side (its_side words slot.first slot.notes slot.side out.side side own.beside) in
    record {
      many = many_again p house new clients s away (left_slot slot) outs slots served.many;
      others = others_go_on p house new clients s away (left_slot slot) is_known (λ t off. stays_so past) outs slots (λ t k off. served.each t k);
      is_known = is_known;
      client = subst (λ (g : List Event). IsOrderedClient p g s words) (sym past) own.client;
      run = subst (λ (g : List Event). IsRunOf p g out.run) (sym past) run;
      going = going;
      list = list;
      beside = subst (λ (x : SlotData SideData ℕ). AreBeside words out.note x.notes out.side) (sym its_slot) (subst (λ (o : Option ℕ). AreBeside words o (left_slot slot).notes out.side) (sym note) beside);
    }
