-- What calls of the core answer.
use Rattle.std.specs.Prelude.{◌≡◌, ℕ, ◌+◌, ◌==◌, Bool, true, false, List, length, Err, IsOk, if◌then◌else◌}
use Rattle.gpu_word.specs.Header.{size_of}
use Rattle.gpu_cmd.specs.declared.error.CmdError.{CmdError}
use Rattle.gpu_plan.specs.Plans.{PlansData, plan_of}
use Rattle.stream_state.specs.Steps.{header_in}
use Rattle.sync_core.specs.Standing.{is_open}
use Rattle.gpu_journal.specs.declared.event.Event.{Event}
use Rattle.gpu_journal.specs.declared.event.Event.TheVariants.{Step, Lost}
use Rattle.gpu_journal.specs.declared.event.Why.TheVariants.{Error}
use Rattle.gpu_journal.specs.World.{replay, state_of}
use Rattle.gpu_journal.specs.Waits.{standing_of}
use Rattle.gpu_journal.specs.Facts.{verdict_at}
use Rattle.serial_laws.specs.Runs.{step_keeps}
use Rattle.step_parts.specs.declared.acted.Acted.{Acted}
use Rattle.step_parts.specs.Executing.{IsToldOf}
use Rattle.house_core.specs.declared.steps.Stepped.{Stepped}
use Rattle.house_core.specs.declared.steps.Stepped.TheVariants as stepped
use Rattle.house_core.specs.Desks.{RunData, at_home}
use Rattle.house_core.specs.Core.{CoreData, Stays, Grows, KeepsJournal, IsOfCore, IsAway, IsRunOf, out_at, with_out}

-- a run left: it is what the journal says, its stream was at home, and it is away now
pub record Leaves (old new : CoreData) (out : RunData) : Type 0 where
  pub own : IsOfCore old out
  pub run : IsRunOf old.plans old.past out
  pub going : out.paused ≡ false
  pub home : out_at old.outs out.stream ≡ at_home
  pub outs : new.outs ≡ with_out old.outs out.stream record { order = out.order; paused = false }
  pub away : IsAway new out

-- a run that was out came home, and where its stream was open the journal notes this event
pub record ComesHome (old new : CoreData) (run : RunData) (e : Event) : Type 0 where
  pub event : is_open (standing_of old.plans old.past run.stream) ≡ true → Grows old new e
  pub over : is_open (standing_of old.plans old.past run.stream) ≡ false → KeepsJournal old new
  pub outs : new.outs ≡ with_out old.outs run.stream at_home
  pub away : IsAway old run

-- the report of a step of stream s on these words, by the journal before it
abbrev pub WasExecuted : PlansData → List Event → ℕ → List (ℕ × ℕ) → Acted → Type 0
WasExecuted p h s words = IsToldOf (plan_of p s).areas words (state_of p h s) (replay p h) (step_keeps p h s)

-- the place of the next header, after a command of this size
abbrev pub further : ℕ → ℕ → ℕ → ℕ
further ring get size = if get + size == ring then 0 else get + size

-- what a step on these words makes of what its run carries
pub record IsMovedBy (old new : RunData) (words : List (ℕ × ℕ)) (kept : Bool) : Type 0 where
  pub stream : new.stream ≡ old.stream
  pub order : new.order ≡ old.order
  pub place : new.place ≡ old.place
  pub areas : new.facts.areas ≡ old.facts.areas
  pub put : new.facts.put ≡ old.facts.put
  pub get : new.facts.get ≡ further old.facts.areas.ring old.facts.get (size_of (header_in words))
  pub fetched : new.facts.fetched ≡ old.facts.fetched + length words
  pub finished : new.finished ≡ old.finished
  pub paused : new.paused ≡ kept
  pub book : new.book ≡ old.book

-- a step of a run was executed: the journal notes it, the run is paused where its wait was kept, and it moved on to the next
-- command and is what the journal says again
pub record HasStepped (old new : CoreData) (out left : RunData) (words : List (ℕ × ℕ)) (answer : Acted) : Type 0 where
  pub event : Grows old new (Step out.stream words)
  pub acted : WasExecuted old.plans old.past out.stream words answer
  pub outs : new.outs ≡ with_out old.outs out.stream record { order = out.order; paused = answer.kept }
  pub moved : IsMovedBy out left words answer.kept
  pub run : IsRunOf new.plans new.past left

-- the stream is open and the words are a valid command, whose step was executed
pub record IsStepDone (old new : CoreData) (out left : RunData) (words : List (ℕ × ℕ)) (acted : Acted) : Type 0 where
  pub still_open : is_open (standing_of old.plans old.past out.stream) ≡ true
  pub valid : IsOk (verdict_at old.plans old.past out.stream words)
  pub stepped : HasStepped old new out left words acted

-- the stream is open and the words are no valid command, so the stream is lost by this error
pub record IsStepRefused (old new : CoreData) (out left : RunData) (words : List (ℕ × ℕ)) (error : CmdError) : Type 0 where
  pub still_open : is_open (standing_of old.plans old.past out.stream) ≡ true
  pub verdict : verdict_at old.plans old.past out.stream words ≡ Err error
  pub event : Grows old new (Lost out.stream (Error error) words)
  pub outs : new.outs ≡ old.outs
  pub run : left ≡ out

-- the stream was over before, and nothing has changed
pub record IsStepOver (old new : CoreData) (out left : RunData) (cause : Type 0) : Type 0 where
  pub over : cause
  pub stays : Stays old new
  pub run : left ≡ out

-- how a step is answered: the stream was lost or closed before, it is lost by an error now, or its command was executed
abbrev pub AnswersStep : CoreData → CoreData → RunData → RunData → List (ℕ × ℕ) → Stepped → Type 0
AnswersStep old new out left words stepped.Lost = IsStepOver old new out left ((standing_of old.plans old.past out.stream).lost ≡ true)
AnswersStep old new out left words stepped.Closed =
    IsStepOver old new out left (((standing_of old.plans old.past out.stream).lost ≡ false) × ((standing_of old.plans old.past out.stream).closed ≡ true))
AnswersStep old new out left words (stepped.Invalid error) = IsStepRefused old new out left words error
AnswersStep old new out left words (stepped.Done acted) = IsStepDone old new out left words acted
