-- What a commit makes of the journal.
use Rattle.std.specs.Prelude.{◌≡◌, ℕ, Bool, true, false, List, [], ◌∷◌, ◌++◌, Err}
use Rattle.gpu_cmd.specs.declared.error.CmdError.{CmdError}
use Rattle.gpu_plan.specs.Plans.{PlansData}
use Rattle.sync_core.specs.Standing.{is_open}
use Rattle.gpu_journal.specs.declared.event.Event.{Event}
use Rattle.gpu_journal.specs.declared.event.Event.TheVariants as event
use Rattle.gpu_journal.specs.declared.event.Why.TheVariants.{Error, Memory}
use Rattle.gpu_journal.specs.Waits.{standing_of}
use Rattle.gpu_journal.specs.Facts.{verdict_at}
use Rattle.house_core.specs.Core.{with_out}
use Rattle.house_core.specs.Desks.{RunData, at_home}
use Rattle.gpu_house.specs.Committing.{journal_stepped, AreValid, keeps_one}
use Rattle.gpu_hall.specs.Halls.{HallData}

-- how a run came home: its stream was over before, a wait of its steps was kept, its flush is at its end, a command is invalid, or
-- memory ran out
pub data Return : Type 0 where
  WasOver : Return
  Waits : Return
  Ended : Return
  Invalid : CmdError → Return
  Wanted : Return

-- stream s was over before, and nothing has changed
pub record WasOverBefore (p : PlansData) (old new : List Event) (s : ℕ) : Type 0 where
  pub over : is_open (standing_of p old s) ≡ false
  pub same : new ≡ old

-- stream s is open and these are valid commands, one after the other; the journal has their steps, of which a wait was kept or none
pub record HasSteps (p : PlansData) (old new : List Event) (s : ℕ) (members : List (List (ℕ × ℕ))) (kept : Bool) : Type 0 where
  pub still_open : is_open (standing_of p old s) ≡ true
  pub valid : AreValid p s members old
  pub waits : keeps_one p s members old ≡ kept
  pub steps : new ≡ journal_stepped s members old

-- the journal has the steps of all members, none of which waits, and the finish of their order n
pub record HasFinish (p : PlansData) (old new : List Event) (s n : ℕ) (members : List (List (ℕ × ℕ))) : Type 0 where
  pub all : HasSteps p old (journal_stepped s members old) s members false
  pub finish : new ≡ event.Finish s n ∷ journal_stepped s members old

-- the journal has the steps of the first members; the next one is no valid command after them, so the stream is lost by this error
pub record IsLostBy (p : PlansData) (old new : List Event) (s : ℕ) (members : List (List (ℕ × ℕ))) (error : CmdError) : Type 0 where
  pub first : List (List (ℕ × ℕ))
  pub words : List (ℕ × ℕ)
  pub rest : List (List (ℕ × ℕ))
  pub those : members ≡ first ++ words ∷ rest
  pub before : HasSteps p old (journal_stepped s first old) s first false
  pub verdict : verdict_at p (journal_stepped s first old) s words ≡ Err error
  pub loss : new ≡ event.Lost s (Error error) words ∷ journal_stepped s first old

-- the journal has the steps of the first members; after them memory ran out, so the stream is lost for that
pub record IsLostForMemory (p : PlansData) (old new : List Event) (s : ℕ) (members : List (List (ℕ × ℕ))) : Type 0 where
  pub first : List (List (ℕ × ℕ))
  pub rest : List (List (ℕ × ℕ))
  pub those : members ≡ first ++ rest
  pub before : HasSteps p old (journal_stepped s first old) s first false
  pub loss : new ≡ event.Lost s Memory [] ∷ journal_stepped s first old

-- what the journal has once a run of stream s and order n, for which these members were fetched, came home
abbrev pub CameHome : PlansData → List Event → List Event → ℕ → ℕ → List (List (ℕ × ℕ)) → Return → Type 0
CameHome p old new s n members WasOver = WasOverBefore p old new s
CameHome p old new s n members Waits = HasSteps p old new s members true
CameHome p old new s n members Ended = HasFinish p old new s n members
CameHome p old new s n members (Invalid error) = IsLostBy p old new s members error
CameHome p old new s n members Wanted = IsLostForMemory p old new s members

-- the run goes on as `on`: it is of the same stream, the journal has the steps of all members, and the run is out and not paused
pub record WentOn (p : PlansData) (old new : HallData) (run : RunData) (members : List (List (ℕ × ℕ))) (on : RunData) : Type 0 where
  pub same : on.stream ≡ run.stream
  pub steps : HasSteps p old.past new.past run.stream members false
  pub outs : new.outs ≡ with_out old.outs run.stream record { order = run.order; paused = false }
  pub view : new.view ≡ old.view

-- the run came home so
pub record WentHome (p : PlansData) (old new : HallData) (run : RunData) (members : List (List (ℕ × ℕ))) : Type 0 where
  pub how : Return
  pub came : CameHome p old.past new.past run.stream run.order members how
  pub outs : new.outs ≡ with_out old.outs run.stream at_home
  pub view : new.view ≡ old.view
