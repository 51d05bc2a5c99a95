-- The rule of the words, which holds between any two steps.
use Rattle.std.specs.Prelude.{◌≡◌, ◌≢◌, ◌⊎◌, ℕ, ◌+◌, ◌<◌, ◌≤◌, [], ◌∷◌, length, slice_index, replicate}
use mathlib.Core.Option.{some}
use lib.ListN.{get_elem?}
use Rattle.atomic_table.specs.Table.{State}
use Rattle.gpu_cmd.specs.Lawful.{places_of}
use Rattle.gpu_plan.specs.Plans.{PlanData}
use Rattle.gpu_plan.specs.Values.{value_at}
use Rattle.shm_words.specs.declared.view.ClientView.{ClientView}
use Rattle.shm_words.specs.declared.view.ServiceView.{ServiceView}
use Rattle.shm_words.specs.declared.view.View.{View}
use Rattle.shm_words.specs.declared.view.View.TheVariants.{Whole, Client, Service, Note, Spent}
use Rattle.shm_words.specs.Views.{reach_of}

-- the words of a stream, and the views of all seats
abbrev pub WordState : Type 0
WordState = State (Unit {0}) View

-- a note of a flush that is stored, or one that was met
abbrev pub IsStoredNote : ℕ → View → Type 0
IsStoredNote stored (Note mark) = mark ≤ stored
IsStoredNote stored Spent = Unit {0}
IsStoredNote stored (Whole plan) = ⊥
IsStoredNote stored (Client client) = ⊥
IsStoredNote stored (Service service) = ⊥

-- the words as they are made: all are 0, and one seat has the whole
pub record Fresh (plan : PlanData) (s : WordState) : Type 0 where
  pub zeros : s.words ≡ replicate (3 + places_of plan.areas) 0
  pub alone : s.views ≡ Whole plan ∷ []

-- the words in use, of one client, one service, and notes:
-- - each place has its value after the actions that the client has done
-- - marks are stored before they are reported, and the other two words are the service's numbers
-- - the client has not gone past its bound at these numbers
pub record InUse (plan : PlanData) (s : WordState) : Type 0 where
  pub client_seat : ℕ
  pub service_seat : ℕ
  pub client : ClientView
  pub service : ServiceView
  pub client_there : get_elem? s.views client_seat ≡ some (Client client)
  pub service_there : get_elem? s.views service_seat ≡ some (Service service)
  pub others : (seat : ℕ) (view : View) → seat ≢ client_seat → seat ≢ service_seat → get_elem? s.views seat ≡ some view → IsStoredNote (slice_index s.words 0) view
  pub client_plan : client.plan ≡ plan
  pub service_plan : service.plan ≡ plan
  pub wide : length s.words ≡ 3 + places_of plan.areas
  pub values : (place : ℕ) → place < places_of plan.areas → slice_index s.words (3 + place) ≡ value_at plan.actions client.done place
  pub flush_mark : slice_index s.words 0 ≤ client.done
  pub client_mark : client.mark ≤ slice_index s.words 0
  pub service_mark : service.met ≤ slice_index s.words 0
  pub finish_word : slice_index s.words 1 ≡ service.finished
  pub token_word : slice_index s.words 2 ≡ service.greatest
  pub bounded : client.done ≤ reach_of service

-- the rule of the words
abbrev pub KeepsWords : PlanData → WordState → Type 0
KeepsWords plan s = Fresh plan s ⊎ InUse plan s
