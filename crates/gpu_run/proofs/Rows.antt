-- Rows that begin with stream 1: one place has another value, and all others are the same.
use Rattle.std.proofs.Common.{◌≡◌, ◌≢◌, ℕ, ◌-◌, ◌<◌, eqb, true, List, length, get_or, set, refl, sym, ap, ◌∙◌}
use Rattle.std.proofs.lemmas.Bool.{ne_eqb}
use Rattle.sync_core.specs.Standing.{IsKnown}
use Rattle.sync_core.proofs.Rows.{row, row_is, row_same, row_other, row_there}
use Rattle.house_core.specs.Core.{is_home, with_out}
use Rattle.house_core.specs.Desks.{Out, at_home}
use Rattle.gpu_house.specs.Slots.{SlotData, no_slot, slot_at, with_slot}
use Rattle.gpu_house.proofs.Rows.{slot_row, out_set_here, home_other}
use Rattle.gpu_run.specs.Clients.{RunClientData, no_client, client_of_stream}

-- ---- clients

client_row : (clients : List RunClientData) (s : ℕ) → client_of_stream clients s ≡ row no_client clients s
client_row = row_is no_client client_of_stream (λ clients. refl) (λ clients k. refl)

pub client_same : (clients : List RunClientData) (s : ℕ) (client : RunClientData) → IsKnown (length clients) s → client_of_stream (set clients (s - 1) client) s ≡ client
client_same clients s client known = client_row (set clients (s - 1) client) s ∙ row_same no_client clients s client known

pub client_other : (clients : List RunClientData) (s t : ℕ) (client : RunClientData) → 0 < s → t ≢ s → client_of_stream (set clients (s - 1) client) t ≡ client_of_stream clients t
client_other clients s t client low off = client_row (set clients (s - 1) client) t ∙ row_other no_client clients s t client low off ∙ sym (client_row clients t)

pub client_there : (clients : List RunClientData) (s : ℕ) (other : RunClientData) → IsKnown (length clients) s → get_or clients (s - 1) other ≡ client_of_stream clients s
client_there clients s other known = row_there no_client clients s other known ∙ sym (client_row clients s)

-- ---- slots

module _ {Side Note : Type 0} where
  pub slot_same : (slots : List (SlotData Side Note)) (s : ℕ) (slot : SlotData Side Note) → IsKnown (length slots) s → slot_at (with_slot slots s slot) s ≡ slot
  slot_same slots s slot known = slot_row (with_slot slots s slot) s ∙ row_same no_slot slots s slot known

  pub slot_other : (slots : List (SlotData Side Note)) (s t : ℕ) (slot : SlotData Side Note) → 0 < s → t ≢ s → slot_at (with_slot slots s slot) t ≡ slot_at slots t
  slot_other slots s t slot low off = slot_row (with_slot slots s slot) t ∙ row_other no_slot slots s t slot low off ∙ sym (slot_row slots t)

-- ---- runs that are out

-- a run that came home
pub home_back : (outs : List Out) (s : ℕ) → IsKnown (length outs) s → is_home (with_out outs s at_home) s ≡ true
home_back outs s known = ap (λ (o : Out). eqb o.order 0) (out_set_here outs s at_home known)

-- and the home of another stream
pub home_apart : (outs : List Out) (s t : ℕ) (out : Out) → 0 < s → t ≢ s → is_home (with_out outs s out) t ≡ is_home outs t
home_apart outs s t out low off = home_other outs s t out low (ne_eqb s t (λ same. off (sym same)))
