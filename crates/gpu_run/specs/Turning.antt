-- What a run in its turn has on one thread, and what one command of it and all of them leave.
use Rattle.std.specs.Prelude.{◌≡◌, ℕ, ◌<◌, Bool, true, false, List, ◌∷◌, length, Some}
use Rattle.gpu_plan.specs.Plans.{PlansData}
use Rattle.gpu_fetch.specs.Side.{SideData}
use Rattle.gpu_journal.specs.Serial.{stays, is_runnable, begins_round, runner, choice, run_event, IsPlayed}
use Rattle.serial_laws.specs.Scripts.{AreLawfulPlans}
use Rattle.house_core.specs.Core.{with_out}
use Rattle.house_core.specs.Desks.{at_home}
use Rattle.gpu_house.specs.House.{OutData}
use Rattle.gpu_house.specs.Changes.{with_side}
use Rattle.gpu_run.specs.Clients.{RunClientData, done_at}
use Rattle.gpu_run.specs.Reading.{HaveRead}
use Rattle.gpu_run.specs.Rounds.{IsRunning, goes_on}
use Rattle.gpu_run.specs.Served.{PlainHouse, IsServed, IsOut}

-- a run is out: the rule has chosen its stream, which can run, and streams run in this phase of the round. The plans are
-- lawful, the journal is what the rule has played so far, and the clients have read the dumps that they have passed
pub record IsInTurn (p : PlansData) (house : PlainHouse) (clients : List RunClientData) (run : OutData SideData ℕ) : Type 0 where
  pub lawful : AreLawfulPlans p
  pub played : IsPlayed p house.core.past
  pub out : IsOut p house clients run
  pub running : IsRunning p house.core.past (done_at clients)
  pub chosen : runner p house.core.past ≡ Some run.run.stream
  pub runs : is_runnable p house.core.past run.run.stream ≡ true
  pub read : HaveRead p house.core.past clients

-- a run is at home again, and each stream is served. The journal is longer, and what the rule has played so far. The rule
-- chooses anew, and streams go on running where no round begins
pub record HasRunOut (p : PlansData) (old new : PlainHouse) (clients : List RunClientData) : Type 0 where
  pub played : IsPlayed p new.core.past
  pub served : IsServed p new clients
  pub read : HaveRead p new.core.past clients
  pub chosen : runner p new.core.past ≡ choice p new.core.past
  pub running : begins_round p new.core.past ≡ false → IsRunning p new.core.past (done_at clients)
  pub longer : length old.core.past < length new.core.past

-- a run came home, and the journal stayed
pub record IsTakenBack (before after : PlainHouse) (run : OutData SideData ℕ) : Type 0 where
  pub past : after.core.past ≡ before.core.past
  pub outs : after.core.outs ≡ with_out before.core.outs run.run.stream at_home
  pub slots : after.slots ≡ with_side before.slots run.run.stream run.side run.note

-- the run of stream s took its next command, and this is the run now: the journal has the event of the rule, and the answer
-- says whether the run goes on. Where it does, it is out as it was; else each stream is served once the run is taken back
pub record HasTakenNext (p : PlansData) (old new : PlainHouse) (clients : List RunClientData) (s : ℕ) (now : OutData SideData ℕ) (more : Bool) : Type 0 where
  pub event : new.core.past ≡ run_event p old.core.past s ∷ old.core.past
  pub goes : more ≡ goes_on p new.core.past s
  pub same : now.run.stream ≡ s
  pub on : more ≡ true → IsOut p new clients now
  pub list : stays p new.core.past now.run.stream ≡ true → length now.side.fetched ≡ now.run.facts.fetched
  pub home : (last : PlainHouse) → IsTakenBack new last now → IsServed p last clients
