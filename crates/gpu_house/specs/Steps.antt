-- What a step of a house answers, and what it tells a client.
use Rattle.std.specs.Prelude.{◌≡◌, ℕ, ◌∷◌, Bool, true, false, List, Err, None, IsOk, option_map, if◌then◌else◌}
use Rattle.gpu_cmd.specs.declared.error.CmdError.{CmdError}
use Rattle.gpu_plan.specs.Plans.{PlansData}
use Rattle.gpu_fetch.specs.Side.{SideData, token_published}
use Rattle.stream_state.specs.declared.effect.Effect.{Effect}
use Rattle.stream_state.specs.declared.effect.Effect.TheVariants.{Token}
use Rattle.sync_core.specs.Standing.{is_open}
use Rattle.gpu_journal.specs.declared.event.Event.{Event}
use Rattle.gpu_journal.specs.declared.event.Event.TheVariants as event
use Rattle.gpu_journal.specs.declared.event.Why.TheVariants.{Error}
use Rattle.gpu_journal.specs.World.{world, asked_by}
use Rattle.gpu_journal.specs.Waits.{standing_of}
use Rattle.gpu_journal.specs.Facts.{verdict_at}
use Rattle.serial_laws.specs.Runs.{step_keeps}
use Rattle.house_core.specs.Answers.{IsMovedBy}
use Rattle.house_core.specs.Core.{IsRunOf, with_out}
use Rattle.gpu_house.specs.declared.answers.Next.{Next}
use Rattle.gpu_house.specs.declared.answers.Next.TheVariants.{More, Paused, FlushEnd, Invalid, Lost, Closed}
use Rattle.gpu_house.specs.House.{HouseData, OutData}
use Rattle.gpu_house.specs.Changes.{Same, met_by}

-- paused where the step's wait was kept, at the flush's end where nothing is left of it, and else more will come
abbrev pub next_of : Bool → Bool → Next
next_of kept at_end = if kept then Paused else (if at_end then FlushEnd else More)

-- the side once it has told its client of a step
abbrev pub told_side : Effect → SideData → SideData
told_side (Token token) side = token_published side token
told_side _ side = side

-- what a step of stream s on these words asks for, by the journal before it
abbrev pub asked_at : PlansData → List Event → ℕ → List (ℕ × ℕ) → Effect
asked_at p h s words = asked_by p s words (world p h)

module _ {Side Note Results : Type 0} (side : Side → SideData) (mark : Note → ℕ) where
  -- the stream is open and the words are a valid command:
  -- - the journal notes its step
  -- - the run moved on to the next command and is what the journal says again, paused where the wait of this step was kept
  -- - its note is met, and its client hears of it
  pub record IsRunStepDone (p : PlansData) (old new : HouseData Side Note Results) (out left : OutData Side Note) (words : List (ℕ × ℕ)) (paused : Bool) : Type 0 where
    pub still_open : is_open (standing_of p old.core.past out.run.stream) ≡ true
    pub valid : IsOk (verdict_at p old.core.past out.run.stream words)
    pub kept : paused ≡ step_keeps p old.core.past out.run.stream (asked_at p old.core.past out.run.stream words)
    pub event : new.core.past ≡ event.Step out.run.stream words ∷ old.core.past
    pub moved : IsMovedBy out.run left.run words paused
    pub run : IsRunOf p new.core.past left.run
    pub outs : new.core.outs ≡ with_out old.core.outs out.run.stream record { order = out.run.order; paused = paused }
    pub told : side left.side ≡ told_side (asked_at p old.core.past out.run.stream words) (met_by (option_map mark out.note) (side out.side))
    pub met : left.note ≡ None

  -- the stream is open and the words are no valid command, so the stream is lost by this error; the note of its run is met
  pub record IsRefused (p : PlansData) (old new : HouseData Side Note Results) (out left : OutData Side Note) (words : List (ℕ × ℕ)) (error : CmdError) : Type 0 where
    pub still_open : is_open (standing_of p old.core.past out.run.stream) ≡ true
    pub verdict : verdict_at p old.core.past out.run.stream words ≡ Err error
    pub event : new.core.past ≡ event.Lost out.run.stream (Error error) words ∷ old.core.past
    pub run : left.run ≡ out.run
    pub outs : new.core.outs ≡ old.core.outs
    pub told : side left.side ≡ met_by (option_map mark out.note) (side out.side)
    pub met : left.note ≡ None

  -- the stream was over before, and nothing has changed
  pub record IsOver (old new : HouseData Side Note Results) (out left : OutData Side Note) (over : Type 0) : Type 0 where
    pub is_over : over
    pub same : Same old new
    pub run : left ≡ out

  -- how a step of a run is answered
  abbrev pub Steps : PlansData → HouseData Side Note Results → HouseData Side Note Results → OutData Side Note → OutData Side Note → List (ℕ × ℕ) → Next → Type 0
  Steps p old new out left words More = IsRunStepDone p old new out left words false
  Steps p old new out left words Paused = IsRunStepDone p old new out left words true
  Steps p old new out left words FlushEnd = IsRunStepDone p old new out left words false
  Steps p old new out left words (Invalid error) = IsRefused p old new out left words error
  Steps p old new out left words Lost = IsOver old new out left ((standing_of p old.core.past out.run.stream).lost ≡ true)
  Steps p old new out left words Closed =
      IsOver old new out left (((standing_of p old.core.past out.run.stream).lost ≡ false) × ((standing_of p old.core.past out.run.stream).closed ≡ true))
