-- What a fetch of a run asks, and what it gives.
use Rattle.std.specs.Prelude.{◌≡◌, ◌≢◌, ◌++◌, ℕ, false, List, length, None, option_map, IfSome}
use Rattle.gpu_fetch.specs.Side.{SideData, SideFetches, StillBelongs}
use Rattle.gpu_house.specs.House.{OutData}
use Rattle.gpu_house.specs.Changes.{met_by}

module _ {Side Note Words : Type 0} (side : Side → SideData) (belongs : Side → Words → Type 0) (note_belongs : Side → Words → Note → Type 0) where
  -- something is left of the run's flush, it is not paused, and it has fetched no more than its facts say; its side and its note belong
  -- with these words
  pub record CanFetch (words : Words) (out : OutData Side Note) : Type 0 where
    pub beside : belongs out.side words
    pub note : IfSome out.note (note_belongs out.side words)
    pub more : out.run.facts.get ≢ out.run.facts.put
    pub going : out.run.paused ≡ false
    pub list : length (side out.side).fetched ≡ out.run.facts.fetched

module _ {Side Note Words : Type 0} (belongs : Side → Words → Type 0) (note_belongs : Side → Words → Note → Type 0) where
  -- the note of the run is met, and nothing else of it has changed but its side; what belonged with these words does so again
  pub record HasMetNote (words : Words) (old new : OutData Side Note) : Type 0 where
    pub run : new.run ≡ old.run
    pub met : new.note ≡ None
    pub still : StillBelongs belongs note_belongs words old.side new.side

module _ {Side Note Words : Type 0} (side : Side → SideData) (mark : Note → ℕ) (shows : Words → ℕ × ℕ → Type 0) where
  -- once the note of its run was met, a side found these words, and its list has them after all others
  pub record RunFetches (words : Words) (old new : OutData Side Note) (list : List (ℕ × ℕ)) : Type 0 where
    pub grows : (side new.side).fetched ≡ (side old.side).fetched ++ list
    pub found : SideFetches (shows words) (met_by (option_map mark old.note) (side old.side)) (side new.side) list
