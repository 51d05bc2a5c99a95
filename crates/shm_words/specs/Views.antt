-- What each seat at a stream's words knows, and what each step makes of it.
use Rattle.std.specs.Prelude.{◌≡◌, ℕ, ◌+◌, ◌-◌, ◌≤◌, Bool, false, nat_le, Option, Some, None, slice_get, max, [], ◌∷◌, ◌++◌, take, if◌then◌else◌}
use Rattle.atomic_table.specs.Table.{Me, Step}
use Rattle.gpu_plan.specs.declared.plan.Action.{Action}
use Rattle.gpu_plan.specs.declared.plan.Action.TheVariants.{Put, Flush, Finish, Token, Close}
use Rattle.gpu_plan.specs.Plans.{PlanData, no_plan}
use Rattle.gpu_plan.specs.Passes.{flushes, bound}
use Rattle.gpu_plan.specs.MayHold.{MayHold}
use Rattle.shm_words.specs.declared.view.ClientView.{ClientView}
use Rattle.shm_words.specs.declared.view.ServiceView.{ServiceView}
use Rattle.shm_words.specs.declared.view.View.{View}
use Rattle.shm_words.specs.declared.view.View.TheVariants.{Whole, Client, Service, Note, Spent}

-- a seat's view; the words have no slots
abbrev pub WordSeat : Type 0
WordSeat = Me (Unit {0}) View

-- a client that has done nothing
abbrev pub fresh_client : PlanData → ClientView
fresh_client plan = record { plan = plan; done = 0; mark = 0; loads = [] }

-- a service that has done nothing
abbrev pub fresh_service : PlanData → ServiceView
fresh_service plan = record { plan = plan; met = 0; finished = 0; greatest = 0; fetched = [] }

-- what a client's view knows
abbrev pub client_of : View → ClientView
client_of (Client client) = client
client_of (Whole plan) = fresh_client no_plan
client_of (Service service) = fresh_client no_plan
client_of (Note mark) = fresh_client no_plan
client_of Spent = fresh_client no_plan

-- what a service's view knows
abbrev pub service_of : View → ServiceView
service_of (Service service) = service
service_of (Whole plan) = fresh_service no_plan
service_of (Client client) = fresh_service no_plan
service_of (Note mark) = fresh_service no_plan
service_of Spent = fresh_service no_plan

-- the mark of a note's view
abbrev pub note_mark : View → ℕ
note_mark (Note mark) = mark
note_mark (Whole plan) = 0
note_mark (Client client) = 0
note_mark (Service service) = 0
note_mark Spent = 0

-- the client's next action
abbrev pub client_next : ClientView → Option Action
client_next client = slice_get client.plan.actions client.done

-- the flushes before the client's next action
abbrev pub flushes_of : ClientView → ℕ
flushes_of client = flushes (take client.done client.plan.actions)

-- how far the client can be, by what the service has published
abbrev pub reach_of : ServiceView → ℕ
reach_of service = bound service.plan.actions service.finished (service.greatest ∷ [])

-- whether a token is enough for the next action
abbrev pub is_enough : Option Action → ℕ → Bool
is_enough None greatest = false
is_enough (Some (Put place value)) greatest = false
is_enough (Some (Flush put fences)) greatest = false
is_enough (Some Finish) greatest = false
is_enough (Some (Token token)) greatest = nat_le token greatest
is_enough (Some Close) greatest = false

-- one action more is done
abbrev pub one_done : ClientView → ClientView
one_done client = record client { done = client.done + 1 }

-- and it is a flush
abbrev pub flush_done : ClientView → ClientView
flush_done client = record client { done = client.done + 1; mark = client.done + 1 }

-- a word was loaded, and one action more is done where that lets it pass
abbrev pub loaded : Bool → ℕ → ℕ → ClientView → ClientView
loaded passes word value client = record client { done = client.done + (if passes then 1 else 0); loads = client.loads ++ (word, value) ∷ [] }

-- a word was fetched
abbrev pub fetched_one : ℕ → ℕ → ServiceView → ServiceView
fetched_one place value service = record service { fetched = service.fetched ++ (place, value) ∷ [] }

-- a note was met
abbrev pub met_one : ℕ → ServiceView → ServiceView
met_one mark service = record service { met = max service.met mark }

-- one flush more is published as finished
abbrev pub finished_one : ServiceView → ServiceView
finished_one service = record service { finished = service.finished + 1 }

-- a token is published
abbrev pub told_token : ℕ → ServiceView → ServiceView
told_token token service = record service { greatest = token }

-- what a step tells: of the step, the seat before, the value found or stored, and the seat after
abbrev WordTelling : Type 1
WordTelling = Step (Unit {0}) → WordSeat → ℕ → WordSeat → Type 0

-- one action more is done
abbrev pub stores_data : WordTelling
stores_data step before value after = after ≡ (Client (one_done (client_of before.0)), before.1)

-- one action more is done, and the latest mark is its own
abbrev pub stores_mark : WordTelling
stores_mark step before value after = after ≡ (Client (flush_done (client_of before.0)), before.1)

-- the finish word lets an await pass where all flushes before it are finished
abbrev pub loads_finish : WordTelling
loads_finish step before value after = after ≡ (Client (loaded (nat_le (flushes_of (client_of before.0)) value) step.word value (client_of before.0)), before.1)

-- the token word lets an await pass where it is as great as what is awaited
abbrev pub loads_token : WordTelling
loads_token step before value after = after ≡ (Client (loaded (is_enough (client_next (client_of before.0)) value) step.word value (client_of before.0)), before.1)

-- the latest flush met lies within the client's reach
abbrev pub loads_mark : WordTelling
loads_mark step before value after = (after ≡ before) × ((service_of before.0).met ≤ reach_of (service_of before.0))

-- the client may have put the value there, between the latest flush met and its reach
abbrev pub fetches : WordTelling
fetches step before value after =
    let service : ServiceView = service_of before.0 in
    let place : ℕ = step.word - 3 in
    (after ≡ (Service (fetched_one place value service), before.1)) × MayHold service.plan.actions service.met (reach_of service) place value

-- one flush more is published as finished
abbrev pub stores_finish : WordTelling
stores_finish step before value after = after ≡ (Service (finished_one (service_of before.0)), before.1)

-- the stored token is the greatest one published
abbrev pub stores_token : WordTelling
stores_token step before value after = after ≡ (Service (told_token step.first (service_of before.0)), before.1)

-- the first seat becomes the client's
abbrev pub client_part : View → View
client_part (Whole plan) = Client (fresh_client plan)
client_part (Client client) = Client client
client_part (Service service) = Service service
client_part (Note mark) = Note mark
client_part Spent = Spent

-- and a new one the service's
abbrev pub service_part : View → View
service_part (Whole plan) = Service (fresh_service plan)
service_part (Client client) = Spent
service_part (Service service) = Spent
service_part (Note mark) = Spent
service_part Spent = Spent

-- a note of the client's latest flush
abbrev pub note_part : View → View
note_part view = Note (client_of view).mark

-- the service has met a note
abbrev pub note_met : View → View → View
note_met service note = Service (met_one (note_mark note) (service_of service))
