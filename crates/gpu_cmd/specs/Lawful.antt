-- The areas of a stream that a script may declare, and the facts that a stream may have.
use Rattle.std.specs.Prelude.{ℕ, ◌+◌, ◌-◌, ◌≤◌, ◌<◌, nat_lt, if◌then◌else◌}
use Rattle.gpu_cmd.specs.declared.areas.Areas.{Areas}
use Rattle.gpu_cmd.specs.declared.areas.TheConstants.{LEAST_RING, MOST_RING}
use Rattle.gpu_cmd.specs.declared.facts.StreamFacts.{StreamFacts}
use Rattle.gpu_cmd.specs.declared.facts.TheConstants.{MOST_FETCHED}
use Rattle.gpu_cmd.specs.Spans.{AreTiles, words_in}

-- a ring of 16 to 4,096 entries, transfer memories that follow it, and result memories that count from 0
pub record IsLawfulAreas (areas : Areas) : Type 0 where
  pub ring_least : LEAST_RING ≤ areas.ring
  pub ring_most : areas.ring ≤ MOST_RING
  pub memories : AreTiles areas.ring areas.memories
  pub results : AreTiles 0 areas.results

-- lawful areas, a position in the ring, and no more words fetched than a stream may fetch
pub record IsLawfulFacts (facts : StreamFacts) : Type 0 where
  pub areas : IsLawfulAreas facts.areas
  pub get : facts.get < facts.areas.ring
  pub fetched : facts.fetched ≤ MOST_FETCHED

-- the places of a stream: those of its ring, and those of its transfer memories
abbrev pub places_of : Areas → ℕ
places_of areas = areas.ring + words_in areas.memories

-- the entries from get to the end of its segment, which is put, or the ring's end where put lies before get
abbrev pub room : StreamFacts → ℕ
room facts = (if nat_lt facts.get facts.put then facts.put else facts.areas.ring) - facts.get
