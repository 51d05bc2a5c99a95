-- The places to be fetched: the ring places rise below the ring's end, and the transfer places rise after it.
use Rattle.std.proofs.Common.{◌≡◌, ℕ, zero, suc, ◌+◌, ◌*◌, ◌<◌, ◌≤◌, Bool, true, false, Option, Some, None, Result, Ok, Err, List, [], ◌∷◌, ◌++◌, map, refl, ⊎_elim, arith, add-one, IsTrue, IfOk, IsOkAnd}
use Rattle.std.specs.Prelude.{◌==◌, nat_le, ◌&&◌}
use Rattle.std.specs.List.{AllByRecursion, range_with_len}
use Rattle.std.specs.List.Sorted.{IsStrictlyIncreasing}
use Rattle.std.specs.Option.{option_map_or}
use Rattle.std.proofs.lemmas.Bool.{cases_lt}
use Rattle.std.proofs.lemmas.Bool.Decides.{nat_tests}
use Rattle.std.proofs.lemmas.List.Elements.{All-from_recursion}
use Rattle.gpu_cmd.specs.declared.error.CmdError.{CmdError}
use Rattle.gpu_cmd.specs.declared.areas.Areas.{Areas}
use Rattle.gpu_cmd.specs.declared.areas.Span.{Span}
use Rattle.gpu_cmd.specs.declared.facts.StreamFacts.{StreamFacts}
use Rattle.gpu_cmd.specs.declared.range.Range.{Range}
use Rattle.gpu_cmd.specs.declared.shape.Shape.{Shape}
use Rattle.gpu_cmd.specs.declared.decoded.Decoded.{Decoded}
use Rattle.gpu_cmd.specs.Spans.{span_at}
use Rattle.gpu_cmd.specs.Lawful.{IsLawfulAreas, IsLawfulFacts, places_of}
use Rattle.gpu_cmd.specs.Ranges.{named, places_from, places_in}
use Rattle.gpu_cmd.specs.Checks.{headed, decoded, lies_in}
use Rattle.gpu_cmd.specs.Copied.{fetched_places, places_read, places_headed, places_decoded, ring_places, value_in}
use Rattle.gpu_cmd.specs.Laws.{PlacesRise, PlacesAreThere}
use Rattle.gpu_cmd.proofs.Heads.{headed_within}
use Rattle.gpu_cmd.proofs.Decoders.{decoded_passed}
use Rattle.gpu_cmd.proofs.Copies as copies

-- ---- transfer places

-- places that stand among the transfer places of lawful areas, if there are any
pub record AreBehind (areas : Areas) (from count : ℕ) : Type 0 where
  pub begun : 0 < count → areas.ring ≤ from
  pub ended : from + count ≤ places_of areas

none_behind : (areas : Areas) → AreBehind areas 0 0
none_behind areas = record { begun = λ h. absurd (omega arith); ended = omega arith }

by_bytes : (b : Bool) (areas : Areas) (span : Span) (range : Range) → (range.bytes == 0) ≡ b → areas.ring ≤ span.base → span.base + span.words ≤ places_of areas → IsTrue (nat_le (range.offset + range.bytes) (4 * span.words)) → AreBehind areas (places_from span range).from (places_from span range).count
by_bytes true areas span range e begun ended h = rw e (none_behind areas)
by_bytes false areas span range e begun ended h =
    let fits : range.offset + range.bytes ≤ 4 * span.words = grind (arith, nat_tests) in
    let some : 0 < range.bytes = grind (arith, nat_tests) in
    rw e (record { begun = λ k. omega arith; ended = omega arith })

by_span : (areas : Areas) (range : Range) (span : Option Span) → span_at areas.memories range.memory ≡ span → IsLawfulAreas areas → IsTrue (option_map_or (λ (s : Span). nat_le (range.offset + range.bytes) (4 * s.words)) span false) → AreBehind areas (option_map_or (λ s. places_from s range) span (record { from = 0; count = 0 })).from (option_map_or (λ s. places_from s range) span (record { from = 0; count = 0 })).count
by_span areas range None e lawful h = none_behind areas
by_span areas range (Some span) e lawful h = by_bytes (range.bytes == 0) areas span range refl (lawful.memories.begun range.memory span e) (lawful.memories.ended range.memory span e) h

by_range : (areas : Areas) (range : Option Range) (others : Bool) → IsLawfulAreas areas → IsTrue (option_map_or (lies_in areas.memories) range true && others) → AreBehind areas (option_map_or (places_in areas.memories) range (record { from = 0; count = 0 })).from (option_map_or (places_in areas.memories) range (record { from = 0; count = 0 })).count
by_range areas None others lawful h = none_behind areas
by_range areas (Some range) others lawful h = by_span areas range (span_at areas.memories range.memory) refl lawful (first_holds (lies_in areas.memories range) others h)
  where
    first_holds : (a b : Bool) → IsTrue (a && b) → IsTrue a
    first_holds true b h = refl
    first_holds false b h = h

-- the transfer places of what the decoder answers stand after the ring
pub decoded_behind : (words : List ℕ) (facts : StreamFacts) → IsLawfulAreas facts.areas → IfOk (decoded words facts) (λ found. AreBehind facts.areas found.from found.count)
decoded_behind words facts lawful = decoded_passed words facts (λ found. AreBehind facts.areas found.from found.count) (λ command m q. by_range facts.areas (named command).transfer_range (option_map_or (lies_in facts.areas.results) (named command).size_range true && option_map_or (lies_in facts.areas.results) (named command).data_range true) lawful m)

-- ---- lists that rise

-- each number is at least low, above the ones before, and below high
RisesWithin : ℕ → ℕ → List ℕ → Type 0
RisesWithin low high [] = Unit {0}
RisesWithin low high (place ∷ places) = (low ≤ place) × (place < high) × RisesWithin (place + 1) high places

range_rises : (first count high : ℕ) → first + count ≤ high → RisesWithin first high (range_with_len first count)
unfolding RisesWithin
range_rises first zero high h = tt
range_rises first (suc count) high h = (omega arith, omega arith, range_rises (first + 1) count high (omega arith))

wider : (low lower high : ℕ) (places : List ℕ) → lower ≤ low → RisesWithin low high places → RisesWithin lower high places
unfolding RisesWithin
wider low lower high [] h r = tt
wider low lower high (place ∷ places) h r = let first : low ≤ place = r.0 in (omega arith, r.1, r.2)

-- a list that rises, and after it one that rises from its end on
one_behind_other : (low middle high : ℕ) (front back : List ℕ) → low ≤ middle → middle ≤ high → RisesWithin low middle front → RisesWithin middle high back → RisesWithin low high (front ++ back)
unfolding RisesWithin
one_behind_other low middle high [] back l m r s = wider middle low high back l s
one_behind_other low middle high (place ∷ front) back l m r s =
    let below : place < middle = r.1 in
    (r.0, omega arith, one_behind_other (place + 1) middle high front back (omega arith) m r.2 s)

all_below : (low high : ℕ) (places : List ℕ) → RisesWithin low high places → AllByRecursion (λ place. place < high) places
unfolding RisesWithin
all_below low high [] r = tt
all_below low high (place ∷ places) r = (r.1, all_below (place + 1) high places r.2)

rising : (low high : ℕ) (places : List ℕ) → RisesWithin low high places → IsStrictlyIncreasing places
unfolding RisesWithin
rising low high [] r k h = absurd (omega arith)
rising low high (place ∷ []) r k h = absurd (omega arith)
rising low high (place ∷ next ∷ places) r zero h = let above : place + 1 ≤ next = r.2.0 in omega arith
rising low high (place ∷ next ∷ places) r (suc k) h = rw add-one (rw add-one at (rising (place + 1) high (next ∷ places) r.2 k (omega arith)))

-- ---- the places of a command

transfer_rises : (count from : ℕ) (areas : Areas) → AreBehind areas from count → RisesWithin areas.ring (places_of areas) (range_with_len from count)
unfolding RisesWithin
transfer_rises zero from areas h = tt
transfer_rises (suc count) from areas h = wider from areas.ring (places_of areas) (range_with_len from (suc count)) (h.begun (omega arith)) (range_rises from (suc count) (places_of areas) h.ended)

by_decoder : (areas : Areas) (answer : Result Decoded CmdError) → IfOk answer (λ found. AreBehind areas found.from found.count) → RisesWithin areas.ring (places_of areas) (places_decoded answer)
unfolding RisesWithin
by_decoder areas (Err error) h = tt
by_decoder areas (Ok found) h = transfer_rises found.count found.from areas h

by_head : (memory : ℕ → ℕ) (facts : StreamFacts) (head : Result Shape CmdError) → headed (memory facts.get) facts ≡ head → IsLawfulFacts facts → facts.put < facts.areas.ring → RisesWithin 0 (places_of facts.areas) (places_headed memory facts head)
unfolding RisesWithin
by_head memory facts (Err error) e lawful r = let g : facts.get < facts.areas.ring = lawful.get in (omega arith, omega arith, tt)
by_head memory facts (Ok shape) e lawful r =
    let passed : IsOkAnd (headed (memory facts.get) facts) (λ s. shape.ring_words ≡ s.ring_words) = rw e refl in
    let within : facts.get + shape.ring_words ≤ facts.areas.ring = headed_within (memory facts.get) facts shape.ring_words lawful.get r passed in
    let front = wider facts.get 0 facts.areas.ring (ring_places facts shape) (omega arith) (range_rises facts.get shape.ring_words facts.areas.ring within) in
    let answer = decoded (map memory (ring_places facts shape)) facts in
    one_behind_other 0 facts.areas.ring (places_of facts.areas) (ring_places facts shape) (places_decoded answer) (omega arith) (omega arith) front (by_decoder facts.areas answer (decoded_behind (map memory (ring_places facts shape)) facts lawful.areas))

read_rises : (memory : ℕ → ℕ) (facts : StreamFacts) → IsLawfulFacts facts → RisesWithin 0 (places_of facts.areas) (places_read memory facts)
unfolding RisesWithin
read_rises memory facts lawful = ⊎_elim (λ r. rw (copies.places_in memory facts r) (by_head memory facts (headed (memory facts.get) facts) refl lawful r)) (λ r. rw (copies.places_out memory facts r) tt) (cases_lt facts.put facts.areas.ring)

pub places_rise : PlacesRise
unfolding fetched_places
places_rise words facts lawful = rising 0 (places_of facts.areas) (places_read (value_in words) facts) (read_rises (value_in words) facts lawful)

pub places_are_there : PlacesAreThere
unfolding fetched_places
places_are_there words facts lawful = All-from_recursion (λ place. place < places_of facts.areas) (places_read (value_in words) facts) (all_below 0 (places_of facts.areas) (places_read (value_in words) facts) (read_rises (value_in words) facts lawful))
