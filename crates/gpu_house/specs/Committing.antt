-- What the steps of a batch do to the house, to their run, and to the list of the operations that were drawn.
use Rattle.std.specs.Prelude.{◌≡◌, ℕ, Bool, true, false, ◌||◌, List, [], ◌∷◌, ◌++◌, None, option_map, option_to_list, IsOk}
use Rattle.std.specs.List.{All}
use Rattle.gpu_cmd.specs.declared.error.CmdError.{CmdError}
use Rattle.gpu_store.specs.declared.op.Op.{Op}
use Rattle.gpu_store.specs.declared.op.Answer.TheVariants.{Done}
use Rattle.gpu_store.specs.Images.{Pictures, HasItsTexels, apply}
use Rattle.gpu_plan.specs.Plans.{PlansData}
use Rattle.gpu_fetch.specs.Side.{SideData}
use Rattle.sync_core.specs.Standing.{is_open}
use Rattle.gpu_journal.specs.declared.event.Event.{Event}
use Rattle.gpu_journal.specs.declared.event.Event.TheVariants as event
use Rattle.gpu_journal.specs.Waits.{standing_of}
use Rattle.gpu_journal.specs.Facts.{verdict_at}
use Rattle.serial_laws.specs.Runs.{step_keeps}
use Rattle.house_core.specs.Core.{IsRunOf, with_out}
use Rattle.house_core.specs.Desks.{RunData}
use Rattle.gpu_house.specs.declared.answers.Next.{Next}
use Rattle.gpu_house.specs.declared.answers.Next.TheVariants.{More, Paused, FlushEnd, Invalid, Lost, Closed}
use Rattle.gpu_house.specs.House.{HouseData, OutData}
use Rattle.gpu_house.specs.Changes.{Same, met_by}
use Rattle.gpu_house.specs.Steps.{IsRefused, told_side, asked_at}
use Rattle.gpu_house.specs.Drawing.{drawn_at}
use Rattle.gpu_house.specs.Batches.{facts_behind}

-- ---- steps of stream s on these words, one after the other, from a journal on

-- the journal after the steps
abbrev pub journal_stepped : ℕ → List (List (ℕ × ℕ)) → List Event → List Event
journal_stepped s [] h = h
journal_stepped s (words ∷ more) h = journal_stepped s more (event.Step s words ∷ h)

-- each is a valid command by the journal before it
abbrev pub AreValid : PlansData → ℕ → List (List (ℕ × ℕ)) → List Event → Type 0
AreValid p s [] h = Unit {0}
AreValid p s (words ∷ more) h = IsOk (verdict_at p h s words) × AreValid p s more (event.Step s words ∷ h)

-- a wait of one of the steps is kept
abbrev pub keeps_one : PlansData → ℕ → List (List (ℕ × ℕ)) → List Event → Bool
keeps_one p s [] h = false
keeps_one p s (words ∷ more) h = step_keeps p h s (asked_at p h s words) || keeps_one p s more (event.Step s words ∷ h)

-- the side once it has told its client of the steps
abbrev pub told_sides : PlansData → ℕ → List (List (ℕ × ℕ)) → List Event → SideData → SideData
told_sides p s [] h side = side
told_sides p s (words ∷ more) h side = told_sides p s more (event.Step s words ∷ h) (told_side (asked_at p h s words) side)

-- the operations that the steps draw
abbrev pub drawn_by_steps : PlansData → ℕ → List (List (ℕ × ℕ)) → List Event → List Op
drawn_by_steps p s [] h = []
drawn_by_steps p s (words ∷ more) h = option_to_list (drawn_at p h s words) ++ drawn_by_steps p s more (event.Step s words ∷ h)

-- what they make of what their run carries
pub record IsMovedOver (old new : RunData) (words : List (List (ℕ × ℕ))) (kept : Bool) : Type 0 where
  pub stream : new.stream ≡ old.stream
  pub order : new.order ≡ old.order
  pub place : new.place ≡ old.place
  pub facts : new.facts ≡ facts_behind old.facts words
  pub finished : new.finished ≡ old.finished
  pub paused : new.paused ≡ kept
  pub book : new.book ≡ old.book

-- ---- the report of the images

-- each operation is answered Done on the images that the ones before it left
abbrev pub AreDrawn : Pictures → List Op → Type 0
AreDrawn images [] = Unit {0}
AreDrawn images (op ∷ ops) = ((apply images op).answer ≡ Done) × AreDrawn (apply images op).images ops

-- the images once the operations were applied
abbrev pub drawn_over : Pictures → List Op → Pictures
drawn_over images [] = images
drawn_over images (op ∷ ops) = drawn_over (apply images op).images ops

-- operations were reported after those that had been: each was answered Done, an upload among them brings a texel for
-- each of its rectangle, and the new images are the old ones once they were applied in order
pub record TellsDrawn (old new : Pictures) (before after : List Op) : Type 0 where
  pub ops : List Op
  pub told : after ≡ before ++ ops
  pub answered : AreDrawn old ops
  pub texels : All HasItsTexels ops
  pub images : new ≡ drawn_over old ops

-- ---- a batch

-- stream s is over, as this answer says
abbrev pub IsOverBy : PlansData → List Event → ℕ → Next → Type 0
IsOverBy p h s Lost = (standing_of p h s).lost ≡ true
IsOverBy p h s Closed = ((standing_of p h s).lost ≡ false) × ((standing_of p h s).closed ≡ true)
IsOverBy p h s _ = ⊥

-- what a batch changes: the house, the run that fetched it, and the operations that were drawn
pub record Stage (Side Note Results : Type 0) : Type 0 where
  pub house : HouseData Side Note Results
  pub out : OutData Side Note
  pub drawn : List Op

-- nothing has changed
pub record IsStill {Side Note Results : Type 0} (old new : Stage Side Note Results) : Type 0 where
  pub house : Same old.house new.house
  pub out : new.out ≡ old.out
  pub drawn : new.drawn ≡ old.drawn

module _ {Side Note Results : Type 0} (side : Side → SideData) (mark : Note → ℕ) where
  -- the stream is open and these are valid commands, one after the other:
  -- - the journal notes their steps
  -- - the run moved on after them and is what the journal says again, paused where a wait of theirs was kept
  -- - its note is met, its client hears of it, and what they draw is reported
  pub record AreDone (p : PlansData) (old new : Stage Side Note Results) (words : List (List (ℕ × ℕ))) (paused : Bool) : Type 0 where
    pub still_open : is_open (standing_of p old.house.core.past old.out.run.stream) ≡ true
    pub valid : AreValid p old.out.run.stream words old.house.core.past
    pub kept : paused ≡ keeps_one p old.out.run.stream words old.house.core.past
    pub events : new.house.core.past ≡ journal_stepped old.out.run.stream words old.house.core.past
    pub moved : IsMovedOver old.out.run new.out.run words paused
    pub run : IsRunOf p new.house.core.past new.out.run
    pub outs : new.house.core.outs ≡ with_out old.house.core.outs old.out.run.stream record { order = old.out.run.order; paused = paused }
    pub told : side new.out.side ≡ told_sides p old.out.run.stream words old.house.core.past (met_by (option_map mark old.out.note) (side old.out.side))
    pub met : new.out.note ≡ None
    pub drawn : new.drawn ≡ old.drawn ++ drawn_by_steps p old.out.run.stream words old.house.core.past

  -- these steps were made, and the run goes on
  abbrev pub HaveGone : PlansData → Stage Side Note Results → Stage Side Note Results → List (List (ℕ × ℕ)) → Type 0
  HaveGone p old new [] = IsStill old new
  HaveGone p old new (words ∷ more) = AreDone p old new (words ∷ more) false

  -- the steps of the first members were made, and no more
  pub record GoneInPart (p : PlansData) (old new : Stage Side Note Results) (members : List (List (ℕ × ℕ))) : Type 0 where
    pub first : List (List (ℕ × ℕ))
    pub rest : List (List (ℕ × ℕ))
    pub those : members ≡ first ++ rest
    pub gone : HaveGone p old new first

  -- the steps of the first members were made, and the next member is no valid command, so the stream is lost by this error
  pub record LosesAt (p : PlansData) (old new : Stage Side Note Results) (members : List (List (ℕ × ℕ))) (error : CmdError) : Type 0 where
    pub first : List (List (ℕ × ℕ))
    pub words : List (ℕ × ℕ)
    pub rest : List (List (ℕ × ℕ))
    pub those : members ≡ first ++ words ∷ rest
    pub between : Stage Side Note Results
    pub gone : HaveGone p old between first
    pub refused : IsRefused side mark p between.house new.house between.out new.out words error
    pub drawn : new.drawn ≡ between.drawn

  -- the stream was over before, and nothing has changed
  pub record WasOver (p : PlansData) (old new : Stage Side Note Results) (next : Next) : Type 0 where
    pub is_over : IsOverBy p old.house.core.past old.out.run.stream next
    pub still : IsStill old new

  -- how a batch is answered: as its last member that was treated, which is its last one where none is refused
  abbrev pub Commits : PlansData → Stage Side Note Results → Stage Side Note Results → List (List (ℕ × ℕ)) → Next → Type 0
  Commits p old new members More = AreDone p old new members false
  Commits p old new members Paused = AreDone p old new members true
  Commits p old new members FlushEnd = AreDone p old new members false
  Commits p old new members (Invalid error) = LosesAt p old new members error
  Commits p old new members Lost = WasOver p old new Lost
  Commits p old new members Closed = WasOver p old new Closed

-- the members of a batch that is answered so were executed, all of them
abbrev pub is_executed : Next → Bool
is_executed More = true
is_executed Paused = true
is_executed FlushEnd = true
is_executed _ = false
