-- What steps of a run ask, and what they give.
use Rattle.std.specs.Prelude.{◌≡◌, ◌≢◌, ℕ, false, List, drop, IfSome}
use Rattle.gpu_plan.specs.Plans.{PlansData}
use Rattle.gpu_fetch.specs.Side.{SideData, StillBelongs}
use Rattle.gpu_fetch.specs.Fetched.{FetchedData}
use Rattle.gpu_journal.specs.World.{replay}
use Rattle.gpu_house.specs.declared.answers.Next.TheVariants.{More, FlushEnd}
use Rattle.gpu_house.specs.declared.answers.Progress.{Progress}
use Rattle.gpu_house.specs.House.{HouseData, OutData}
use Rattle.gpu_house.specs.Changes.{ResultsBelong, WroteResults}
use Rattle.gpu_house.specs.Steps.{Steps}
use Rattle.gpu_house.specs.Drawing.{drawn_at, drawn_if, Draws}
use Rattle.gpu_house.specs.Batches.{AreNext, AreChained, batch_words}

module _ {Side Note Results Words : Type 0} (side : Side → SideData) (belongs : Side → Words → Type 0) (note_belongs : Side → Words → Note → Type 0) (results_belong : Words → Results → Type 0) where
  -- the run is not paused and has fetched this command next; its side, its note and the results of its stream belong with these words
  pub record MayStep (words : Words) (house : HouseData Side Note Results) (out : OutData Side Note) (found : FetchedData) : Type 0 where
    pub going : out.run.paused ≡ false
    pub facts : found.facts ≡ out.run.facts
    pub list : AreNext out.run.facts (side out.side).fetched found.words
    pub beside : belongs out.side words
    pub note : IfSome out.note (note_belongs out.side words)
    pub results : ResultsBelong results_belong words house.results out.run.stream

  -- the same of the members of a batch, one after the other, beyond which it has fetched nothing
  pub record MayCommit (words : Words) (house : HouseData Side Note Results) (out : OutData Side Note) (batch : List FetchedData) : Type 0 where
    pub going : out.run.paused ≡ false
    pub chained : AreChained out.run.facts batch
    pub list : drop out.run.facts.fetched (side out.side).fetched ≡ batch_words batch
    pub beside : belongs out.side words
    pub note : IfSome out.note (note_belongs out.side words)
    pub results : ResultsBelong results_belong words house.results out.run.stream

  -- what steps of a run keep: the sides at home and their notes, the results of other streams, the list that the side has fetched, and
  -- what belongs with these words
  pub record KeepsBeside (words : Words) (old new : HouseData Side Note Results) (out left : OutData Side Note) : Type 0 where
    pub slots : new.slots ≡ old.slots
    pub results : WroteResults results_belong words old.results new.results out.run.stream
    pub still : StillBelongs belongs note_belongs words out.side left.side
    pub list : (side left.side).fetched ≡ (side out.side).fetched

module _ {Side Note Results : Type 0} (side : Side → SideData) (mark : Note → ℕ) where
  -- how a step of a run on these words is reported: its answer, that the flush is at its end exactly where that is said, and the operation
  -- that it draws, which leads from the images before it to those after it
  pub record TookStep (p : PlansData) (old new : HouseData Side Note Results) (out left : OutData Side Note) (words : List (ℕ × ℕ)) (progress : Progress) : Type 0 where
    pub steps : Steps side mark p old new out left words progress.next
    pub end : (progress.next ≡ FlushEnd → left.run.facts.get ≡ left.run.facts.put) × (progress.next ≡ More → left.run.facts.get ≢ left.run.facts.put)
    pub drawn : progress.drawn ≡ drawn_if progress.next (drawn_at p old.core.past out.run.stream words)
    pub draws : Draws (replay p old.core.past) (replay p new.core.past) progress.drawn
