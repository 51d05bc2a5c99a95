-- Where a round of the run on one thread stands between two events.
use Rattle.std.specs.Prelude.{◌≡◌, ℕ, ◌≤◌, List, length, None}
use Rattle.gpu_plan.specs.Plans.{PlansData}
use Rattle.gpu_journal.specs.declared.event.Event.{Event}
use Rattle.gpu_journal.specs.Serial.{next}
use Rattle.serial_laws.specs.Scripts.{AreLawfulPlans}
use Rattle.gpu_run.specs.declared.act.Act.{Act}
use Rattle.gpu_run.specs.Clients.{RunClientData, done_at}
use Rattle.gpu_run.specs.Reading.{HaveRead}
use Rattle.gpu_run.specs.Rounds.{ActsAs, IsRising, HaveActed, HaveClosed, IsRunning}
use Rattle.gpu_run.specs.Served.{PlainHouse, IsServed}

-- the three phases of a round; in the first two, streams 1 to k have had their turn
pub data Phase : Type 0 where
  Acting : ℕ → Phase
  Closing : ℕ → Phase
  Running : Phase

-- what each client and stream has done by then, where the clients have done a given number of actions
abbrev pub HasCome : Phase → PlansData → List Event → (ℕ → ℕ) → Type 0
HasCome (Acting k) p h done = HaveActed p h done k
HasCome (Closing k) p h done = HaveActed p h done (length p.plans) × HaveClosed p h k
HasCome Running p h done = IsRunning p h done

-- the plans are lawful, the journal is what the rule has played so far, the house serves the clients, they have read the
-- dumps that they have passed, and the round has come to this phase
pub record Stands (phase : Phase) (p : PlansData) (house : PlainHouse) (clients : List RunClientData) : Type 0 where
  pub lawful : AreLawfulPlans p
  pub rising : IsRising p house.core.past
  pub served : IsServed p house clients
  pub read : HaveRead p house.core.past clients
  pub come : HasCome phase p house.core.past (done_at clients)

-- what an act of the client of stream s made of the journal and of how far the clients are
abbrev pub HasActed : PlansData → Act → PlainHouse → PlainHouse → List RunClientData → List RunClientData → ℕ → Type 0
HasActed p act old new before after s = ActsAs p act old.core.past new.core.past (done_at before) (done_at after) s

-- none follows where none came
abbrev pub EndsWhereNoneCame : PlansData → List Event → List Event → Type 0
EndsWhereNoneCame p h g = length g ≤ length h → next p g ≡ None
