-- What a journal has grown by where flushes were taken from their queues.
use Rattle.std.specs.Prelude.{◌≡◌, ◌⊎◌, ℕ, ◌+◌, false, List, [], ◌∷◌, length}
use Rattle.gpu_plan.specs.Plans.{PlansData}
use Rattle.sync_core.specs.Standing.{IsKnown}
use Rattle.gpu_journal.specs.declared.event.Event.{Event}
use Rattle.gpu_journal.specs.declared.event.Event.TheVariants.{Lost}
use Rattle.gpu_journal.specs.declared.event.Why.TheVariants.{Memory}
use Rattle.gpu_journal.specs.Waits.{standing_of}
use Rattle.gpu_journal.specs.Serial.{order_event}
use Rattle.gpu_hall.specs.Halls.{HallData}

-- the next flush of stream s was ordered, or as out of memory the stream was lost
abbrev pub OrderedOrLost : PlansData → ℕ → List Event → List Event → Type 0
OrderedOrLost p s old new = (new ≡ order_event p old s ∷ old) ⊎ (new ≡ Lost s Memory [] ∷ old)

-- so it was with stream s, again and again, and nothing else has come to the journal
abbrev pub HasCollectedFrom : PlansData → ℕ → List Event → List Event → Type 0
HasCollectedFrom p s old [] = old ≡ []
HasCollectedFrom p s old (event ∷ new) = (old ≡ event ∷ new) ⊎ (OrderedOrLost p s new (event ∷ new) × HasCollectedFrom p s old new)

-- so it was with some stream
abbrev pub IsCollected : PlansData → List Event → List Event → Type 0
IsCollected p old new = (s : ℕ) × IsKnown (length p.plans) s × OrderedOrLost p s old new

-- so it was with streams, again and again, and nothing else has come to the journal
abbrev pub HasCollected : PlansData → List Event → List Event → Type 0
HasCollected p old [] = old ≡ []
HasCollected p old (event ∷ new) = (old ≡ event ∷ new) ⊎ (IsCollected p new (event ∷ new) × HasCollected p old new)

-- unless stream s is lost, the journal has grown by this number of events
abbrev pub GrewBy : PlansData → ℕ → ℕ → List Event → List Event → Type 0
GrewBy p s count old new = (standing_of p new s).lost ≡ false → length new ≡ length old + count

-- none or one flush of stream s was taken: this number of events has come, unless it is lost, and nothing else has changed
pub record HasLooked (p : PlansData) (s n : ℕ) (old new : HallData) : Type 0 where
  pub came : (new.past ≡ old.past) ⊎ OrderedOrLost p s old.past new.past
  pub count : GrewBy p s n old.past new.past
  pub outs : new.outs ≡ old.outs
  pub view : new.view ≡ old.view
