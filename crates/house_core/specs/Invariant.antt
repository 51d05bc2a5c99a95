-- What the type of the core keeps.
use Rattle.std.specs.Prelude.{◌≡◌, ℕ, suc, ◌<◌, ◌≤◌, ◌==◌, List, length, slice_index_or}
use Rattle.std.specs.List.{All}
use Rattle.gpu_books.specs.Seen.{HalfData}
use Rattle.gpu_store.specs.Images.{Pictures}
use Rattle.gpu_plan.specs.Plans.{PlansData, plan_of}
use Rattle.gpu_plan.specs.Places.{flush_places}
use Rattle.gpu_plan.specs.Passes.{greatest}
use Rattle.sync_core.specs.Core.{Core, StandsFor, HasRoom}
use Rattle.sync_core.specs.Standing.{IsKnown}
use Rattle.sync_core.specs.Laws.{Rank}
use Rattle.seq_sched.specs.declared.seat.Seat.{Seat}
use Rattle.seq_sched.specs.Seats.{seat_of}
use Rattle.gpu_journal.specs.declared.event.Event.{Event}
use Rattle.gpu_journal.specs.World.{known, state_of, replay}
use Rattle.gpu_journal.specs.Waits.{sync_of, standing_of, pending_in}
use Rattle.gpu_journal.specs.Legal.{IsLegal}
use Rattle.gpu_journal.specs.Serial.{rank}
use Rattle.serial_laws.specs.Scripts.{AreLawfulPlans}
use Rattle.serial_laws.specs.Runs.{MayGoOn}
use Rattle.serial_laws.specs.Needs.{needs}
use Rattle.house_core.specs.Walks.{HasWalked}
use Rattle.house_core.specs.Desks.{DeskData, desk_at, book_numbers, kept_half}
use Rattle.house_core.specs.Core.{CoreData, books_of, outs_of}

-- all that a core keeps; owed is how much room the ends to come need
pub record Parts : Type 0 where
  pub plans : PlansData
  pub past : List Event
  pub spare : ℕ
  pub owed : ℕ
  pub sync : Core
  pub seats : List Seat
  pub images : Pictures
  pub desks : List DeskData

-- of stream s: the record is what the journal says, and while its run is out that may go on
pub record DeskFits (p : PlansData) (h : List Event) (s : ℕ) (desk : DeskData) : Type 0 where
  pub places : desk.places ≡ flush_places (plan_of p s).actions
  pub state : desk.state ≡ state_of p h s
  pub ordered : desk.ordered ≡ (known p h s).ordered
  pub finished : desk.finished ≡ (known p h s).finished
  pub greatest : desk.greatest ≡ greatest (known p h s).tokens
  pub lost : desk.lost ≡ (standing_of p h s).lost
  pub closed : desk.closed ≡ (standing_of p h s).closed
  pub walked : HasWalked (plan_of p s).actions desk.finished desk.greatest desk.walk
  pub runs : 0 < desk.out.order → MayGoOn p h s desk.out.order desk.out.paused

-- a half of the book of stream s by the journal: the entries consumed, the words fetched, the flushes finished and the
-- greatest token there, and of the run that is out its order and whether it is paused
abbrev pub half_by : PlansData → List Event → ℕ → DeskData → HalfData
half_by p h s desk = record { book = desk.book; numbers = book_numbers (state_of p h s).entries (state_of p h s).fetched (known p h s).finished (greatest (known p h s).tokens) desk.out }

-- the seat of a stream of the plans: its priority, and whether it is at home
abbrev pub seat_for : PlansData → List DeskData → ℕ → Seat
seat_for p desks s = record { priority = rank (plan_of p s).priority; home = (desk_at desks s).out.order == 0 }

-- there is one of each for each stream of the plans
pub record AreAsMany (c : Parts) : Type 0 where
  pub streams : length c.sync.streams ≡ length c.plans.plans
  pub seats : length c.seats ≡ length c.plans.plans
  pub desks : length c.desks ≡ length c.plans.plans

-- the invariant of the core: its journal is legal, and all else is what the journal says; both halves of a book are those
-- that their desk keeps, by `AreBooked`
pub record CoreInvariant (c : Parts) : Type 0 where
  pub lawful : AreLawfulPlans c.plans
  pub legal : IsLegal c.plans c.past
  pub many : AreAsMany c
  pub sync : StandsFor c.sync (sync_of c.plans c.past)
  pub images : c.images ≡ replay c.plans c.past
  pub states : (k : ℕ) (other : DeskData) → k < length c.desks → DeskFits c.plans c.past (suc k) (slice_index_or c.desks k other)
  pub targets : All (Rank (length c.plans.plans) (sync_of c.plans c.past)) (pending_in c.plans c.past)
  pub books : (k : ℕ) (other : DeskData) → k < length c.desks → kept_half (slice_index_or c.desks k other) ≡ half_by c.plans c.past (suc k) (slice_index_or c.desks k other)
  pub homes : (s : ℕ) → IsKnown (length c.plans.plans) s → seat_of c.seats s ≡ seat_for c.plans c.desks s
  pub room : c.owed ≡ needs c.plans c.past (length c.plans.plans)
  pub spare : c.owed ≤ c.spare
  pub endings : HasRoom c.sync

-- what contracts see of all this
abbrev pub seen : Parts → CoreData
seen c = record { plans = c.plans; past = c.past; spare = c.spare; books = books_of c.desks; outs = outs_of c.desks }

-- this is what contracts see of some parts that keep the invariant of the core
pub record IsCore (core : CoreData) : Type 0 where
  pub parts : Parts
  pub kept : CoreInvariant parts
  pub shown : seen parts ≡ core
