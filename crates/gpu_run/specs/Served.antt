-- What the house and the clients have of each other while no client acts.
use Rattle.std.specs.Prelude.{◌≡◌, ◌≢◌, ℕ, ◌≤◌, true, false, List, length, Option, IfSome}
use Rattle.std.specs.List.{All}
use Rattle.std.specs.Option.{IsSomeAnd}
use Rattle.gpu_plan.specs.Plans.{PlansData, plan_of}
use Rattle.gpu_fetch.specs.Side.{SideData}
use Rattle.gpu_fetch.specs.Plain.{PlainData, IsBeside, IsNoteBeside}
use Rattle.sync_core.specs.Standing.{IsKnown}
use Rattle.gpu_journal.specs.declared.event.Event.{Event}
use Rattle.gpu_journal.specs.World.{known}
use Rattle.gpu_journal.specs.Serial.{count, stays}
use Rattle.house_core.specs.Core.{is_home, IsRunOf}
use Rattle.gpu_house.specs.Slots.{SlotData, slot_at}
use Rattle.gpu_house.specs.House.{HouseData, OutData}
use Rattle.gpu_run.specs.Clients.{RunClientData, client_of_stream, flushes_to}

-- a house whose sides are plain
abbrev pub PlainHouse : Type 0
PlainHouse = HouseData SideData ℕ (Unit {0})

-- a side belongs with its client's words, and so does each of these notes
pub record AreBeside (words : PlainData) (first : Option ℕ) (notes : List ℕ) (side : SideData) : Type 0 where
  pub side_beside : IsBeside side words
  pub first_beside : IfSome first (IsNoteBeside side words)
  pub notes_beside : All (IsNoteBeside side words) notes

-- the client of stream s is of its plan, has gone no further than the rule lets it, and each of its flushes is ordered
pub record IsOrderedClient (p : PlansData) (h : List Event) (s : ℕ) (words : PlainData) : Type 0 where
  pub plan : words.plan ≡ plan_of p s
  pub within : words.done ≤ count p h s
  pub passed : stays p h s ≡ true → (known p h s).ordered ≡ flushes_to (plan_of p s) words.done

-- and its side is at home, with the notes that it has not met
pub record IsServedAt (p : PlansData) (h : List Event) (s : ℕ) (slot : SlotData SideData ℕ) (words : PlainData) : Type 0 where
  pub client : IsOrderedClient p h s words
  pub beside : IsSomeAnd slot.side (AreBeside words slot.first slot.notes)

-- there is one of each for each stream
pub record HaveOneEach (p : PlansData) (house : PlainHouse) (clients : List RunClientData) : Type 0 where
  pub as_clients : length clients ≡ length p.plans
  pub as_slots : length house.slots ≡ length p.plans
  pub as_outs : length house.core.outs ≡ length p.plans

-- stream s is at home and served
abbrev pub IsAtHomeWith : PlansData → PlainHouse → List RunClientData → ℕ → Type 0
IsAtHomeWith p house clients s = (is_home house.core.outs s ≡ true) × IsServedAt p house.core.past s (slot_at house.slots s) (client_of_stream clients s).words

-- each stream is
pub record IsServed (p : PlansData) (house : PlainHouse) (clients : List RunClientData) : Type 0 where
  pub many : HaveOneEach p house clients
  pub each : (s : ℕ) → IsKnown (length p.plans) s → IsAtHomeWith p house clients s

-- a run is out, and each other stream is at home and served
pub record IsOut (p : PlansData) (house : PlainHouse) (clients : List RunClientData) (out : OutData SideData ℕ) : Type 0 where
  pub many : HaveOneEach p house clients
  pub others : (s : ℕ) → IsKnown (length p.plans) s → s ≢ out.run.stream → IsAtHomeWith p house clients s
  pub is_known : IsKnown (length p.plans) out.run.stream
  pub client : IsOrderedClient p house.core.past out.run.stream (client_of_stream clients out.run.stream).words
  pub run : IsRunOf p house.core.past out.run
  pub going : out.run.paused ≡ false
  pub list : length out.side.fetched ≡ out.run.facts.fetched
  pub beside : AreBeside (client_of_stream clients out.run.stream).words out.note (slot_at house.slots out.run.stream).notes out.side
