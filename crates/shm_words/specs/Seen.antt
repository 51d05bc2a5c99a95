-- What contracts see of the passes and of a note, and what ties each to its seat at the words.
use Rattle.std.specs.Prelude.{◌≡◌, ℕ, ◌+◌, ◌≤◌, Option, List, [], ◌∷◌, length, take, slice_get}
use Rattle.atomic_table.specs.Seated.{TableId}
use Rattle.gpu_cmd.specs.Lawful.{places_of}
use Rattle.gpu_plan.specs.declared.plan.Action.{Action}
use Rattle.gpu_plan.specs.Plans.{PlanData, IsLawfulPlan}
use Rattle.gpu_plan.specs.Passes.{flushes, bound}
use Rattle.shm_words.specs.declared.view.View.TheVariants.{Client, Service, Note}
use Rattle.shm_words.specs.Views.{WordSeat, client_of, service_of, note_mark}

-- the words that the client steps on, its plan, the number of actions done, and the words that it has loaded, each with
-- its value: word 1 tells the flushes finished, and word 2 the greatest token
pub record ClientData : Type 0 where
  pub table : TableId
  pub plan : PlanData
  pub done : ℕ
  pub loads : List (ℕ × ℕ)

-- the words that the service steps on, the plan, the places fetched, each with its value, the flushes published as
-- finished, the greatest token published, and the mark of the latest flush met
pub record ServiceData : Type 0 where
  pub table : TableId
  pub plan : PlanData
  pub fetched : List (ℕ × ℕ)
  pub finished : ℕ
  pub greatest : ℕ
  pub met : ℕ

-- the words of a note, and the mark of its flush: the place of the flush among the actions and one more, or 0 for no flush
pub record NoteData : Type 0 where
  pub table : TableId
  pub mark : ℕ

-- a client that has done nothing
abbrev pub client_at : TableId → PlanData → ClientData
client_at table plan = record { table = table; plan = plan; done = 0; loads = [] }

-- a service that has done nothing
abbrev pub service_at : TableId → PlanData → ServiceData
service_at table plan = record { table = table; plan = plan; fetched = []; finished = 0; greatest = 0; met = 0 }

-- the client's next action
abbrev pub next_action : ClientData → Option Action
next_action client = slice_get client.plan.actions client.done

-- the flushes before the client's next action
abbrev pub flushes_before : ClientData → ℕ
flushes_before client = flushes (take client.done client.plan.actions)

-- how far the client can be, by the service's own numbers
abbrev pub service_reach : ServiceData → ℕ
service_reach service = bound service.plan.actions service.finished (service.greatest ∷ [])

-- there are three words, and one more for each place
abbrev pub HasWordsOf : TableId → PlanData → Type 0
HasWordsOf table plan = table.words ≡ 3 + places_of plan.areas

-- the seat is a client's
abbrev pub IsClient : WordSeat → Type 0
IsClient seat = seat ≡ (Client (client_of seat.0), [])

-- the seat is a service's
abbrev pub IsService : WordSeat → Type 0
IsService seat = seat ≡ (Service (service_of seat.0), [])

-- the seat is a note's
abbrev pub IsNote : WordSeat → Type 0
IsNote seat = seat ≡ (Note (note_mark seat.0), [])

-- what a client's pass keeps: its seat knows the plan and the actions done, the plan is lawful and has a word for each of
-- its places, and the flushes done are counted
pub record ClientKeeps (plan : PlanData) (done before : ℕ) (table : TableId) (seat : WordSeat) : Type 0 where
  pub is : IsClient seat
  pub plan_is : (client_of seat.0).plan ≡ plan
  pub done_is : (client_of seat.0).done ≡ done
  pub wide : HasWordsOf table plan
  pub lawful : IsLawfulPlan plan.areas plan.actions
  pub before_is : before ≡ flushes (take done plan.actions)
  pub within : done ≤ length plan.actions

-- what a service's pass keeps: its seat knows the numbers that were published, and the plan is lawful and has a word for
-- each of its places
pub record ServiceKeeps (finished greatest : ℕ) (table : TableId) (seat : WordSeat) : Type 0 where
  pub is : IsService seat
  pub lawful : IsLawfulPlan (service_of seat.0).plan.areas (service_of seat.0).plan.actions
  pub wide : HasWordsOf table (service_of seat.0).plan
  pub finished_is : (service_of seat.0).finished ≡ finished
  pub greatest_is : (service_of seat.0).greatest ≡ greatest
