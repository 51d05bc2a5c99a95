-- The tests of lawful areas hold exactly where the areas are lawful.
use Rattle.std.proofs.Common.{◌≡◌, ℕ, zero, suc, ◌+◌, ◌<◌, ◌≤◌, inl, inr, Bool, true, false, Option, Some, None, List, [], ◌∷◌, refl, sym, ◌∙◌, arith, IsTrue}
use Rattle.std.specs.Prelude.{◌&&◌, ◌||◌, nat_le}
use Rattle.std.specs.Option.{option_map_or}
use Rattle.std.proofs.lemmas.Bool.{and_parts, and_from}
use Rattle.std.proofs.lemmas.Bool.Decides.{nat_tests}
use Rattle.gpu_cmd.specs.declared.areas.Areas.{Areas}
use Rattle.gpu_cmd.specs.declared.areas.Span.{Span}
use Rattle.gpu_cmd.specs.Spans.{span_at, words_in, AreApart, AreTiles}
use Rattle.gpu_cmd.specs.Lawful.{IsLawfulAreas}
use Rattle.gpu_cmd.specs.Tiling.{lies_among, is_apart, each_declared, all_apart, are_tiles, are_lawful}

-- ---- what the tests say

each_at : (test : Span → Bool) (spans : List (Option Span)) → IsTrue (each_declared test spans) → (i : ℕ) (s : Span) → span_at spans i ≡ Some s → IsTrue (test s)
each_at test [] h i s e = cc
each_at test (None ∷ spans) h zero s e = cc
each_at test (Some span ∷ spans) h zero s e = let same : span ≡ s = cc in rw (← same) (and_parts (test span) (each_declared test spans) h).0
each_at test (span ∷ spans) h (suc i) s e = each_at test spans (and_parts (option_map_or test span true) (each_declared test spans) h).1 i s e

apart_told : (s t : Span) → IsTrue (is_apart s t) → AreApart s t
apart_told s t h = by_first (nat_le (s.base + s.words) t.base) refl h
  where
    by_first : (b : Bool) → nat_le (s.base + s.words) t.base ≡ b → IsTrue (b || nat_le (t.base + t.words) s.base) → AreApart s t
    by_first true e k = inl (grind (arith, nat_tests))
    by_first false e k = inr (grind (arith, nat_tests))

all_apart_at : (spans : List (Option Span)) → IsTrue (all_apart spans) → (i j : ℕ) (s t : Span) → i < j → span_at spans i ≡ Some s → span_at spans j ≡ Some t → AreApart s t
all_apart_at [] h i j s t l e f = absurd (cc)
all_apart_at (span ∷ spans) h i zero s t l e f = absurd (omega arith)
all_apart_at (None ∷ spans) h zero (suc j) s t l e f = absurd (cc)
all_apart_at (Some span ∷ spans) h zero (suc j) s t l e f =
    let same : span ≡ s = cc in
    apart_told s t (each_at (is_apart s) spans (rw (← same) (and_parts (each_declared (is_apart span) spans) (all_apart spans) h).0) j t f)
all_apart_at (span ∷ spans) h (suc i) (suc j) s t l e f = all_apart_at spans (and_parts (option_map_or (λ x. each_declared (is_apart x) spans) span true) (all_apart spans) h).1 i j s t (omega arith) e f

pub tiles_from_test : (first : ℕ) (spans : List (Option Span)) → IsTrue (are_tiles first spans) → AreTiles first spans
tiles_from_test first spans h =
    let parts = and_parts (nat_le (words_in spans) 65536) (each_declared (lies_among first (first + words_in spans)) spans && all_apart spans) h in
    let few = parts.0 in
    let rest = and_parts (each_declared (lies_among first (first + words_in spans)) spans) (all_apart spans) parts.1 in
    let among = each_at (lies_among first (first + words_in spans)) spans rest.0 in
    record {
      filled = λ i s e. let k = among i s e in grind (arith, nat_tests);
      begun = λ i s e. let k = among i s e in grind (arith, nat_tests);
      ended = λ i s e. let k = among i s e in grind (arith, nat_tests);
      apart = all_apart_at spans rest.1;
      few = grind (arith, nat_tests);
    }

-- ---- what makes the tests pass

each_from : (test : Span → Bool) (spans : List (Option Span)) → ((i : ℕ) (s : Span) → span_at spans i ≡ Some s → IsTrue (test s)) → IsTrue (each_declared test spans)
each_from test [] h = refl
each_from test (None ∷ spans) h = each_from test spans (λ i s e. h (suc i) s e)
each_from test (Some span ∷ spans) h = and_from (test span) (each_declared test spans) (h zero span refl) (each_from test spans (λ i s e. h (suc i) s e))

apart_passes : (s t : Span) → AreApart s t → IsTrue (is_apart s t)
apart_passes s t h = grind (arith, nat_tests)

all_apart_from : (spans : List (Option Span)) → ((i j : ℕ) (s t : Span) → i < j → span_at spans i ≡ Some s → span_at spans j ≡ Some t → AreApart s t) → IsTrue (all_apart spans)
all_apart_from [] h = refl
all_apart_from (None ∷ spans) h = all_apart_from spans (λ i j s t l e f. h (suc i) (suc j) s t (omega arith) e f)
all_apart_from (Some span ∷ spans) h =
    and_from (each_declared (is_apart span) spans) (all_apart spans) (each_from (is_apart span) spans (λ j t f. apart_passes span t (h zero (suc j) span t (omega arith) refl f))) (all_apart_from spans (λ i j s t l e f. h (suc i) (suc j) s t (omega arith) e f))

among_passes : (first end : ℕ) (s : Span) → 1 ≤ s.words → first ≤ s.base → s.base + s.words ≤ end → IsTrue (lies_among first end s)
among_passes first end s w b e = grind (arith, nat_tests)

pub test_from_tiles : (first : ℕ) (spans : List (Option Span)) → AreTiles first spans → IsTrue (are_tiles first spans)
test_from_tiles first spans h =
    let few : words_in spans ≤ 65536 = h.few in
    let few_passes : IsTrue (nat_le (words_in spans) 65536) = grind (arith, nat_tests) in
    and_from (nat_le (words_in spans) 65536) (each_declared (lies_among first (first + words_in spans)) spans && all_apart spans) few_passes
    (and_from (each_declared (lies_among first (first + words_in spans)) spans) (all_apart spans) (each_from (lies_among first (first + words_in spans)) spans (λ i s e. among_passes first (first + words_in spans) s (h.filled i s e) (h.begun i s e) (h.ended i s e))) (all_apart_from spans h.apart))

lawful_from_test : (areas : Areas) → IsTrue (are_lawful areas) → IsLawfulAreas areas
lawful_from_test areas h =
    let parts = and_parts (nat_le 16 areas.ring) (nat_le areas.ring 4096 && (are_tiles areas.ring areas.memories && are_tiles 0 areas.results)) h in
    let rest = and_parts (nat_le areas.ring 4096) (are_tiles areas.ring areas.memories && are_tiles 0 areas.results) parts.1 in
    let tiles = and_parts (are_tiles areas.ring areas.memories) (are_tiles 0 areas.results) rest.1 in
    let least = parts.0 in
    let most = rest.0 in
    record {
      ring_least = grind (arith, nat_tests);
      ring_most = grind (arith, nat_tests);
      memories = tiles_from_test areas.ring areas.memories tiles.0;
      results = tiles_from_test 0 areas.results tiles.1;
    }

test_from_lawful : (areas : Areas) → IsLawfulAreas areas → IsTrue (are_lawful areas)
test_from_lawful areas h =
    let least : 16 ≤ areas.ring = h.ring_least in
    let most : areas.ring ≤ 4096 = h.ring_most in
    let least_passes : IsTrue (nat_le 16 areas.ring) = grind (arith, nat_tests) in
    let most_passes : IsTrue (nat_le areas.ring 4096) = grind (arith, nat_tests) in
    let tiles = and_from (are_tiles areas.ring areas.memories) (are_tiles 0 areas.results) (test_from_tiles areas.ring areas.memories h.memories) (test_from_tiles 0 areas.results h.results) in
    and_from (nat_le 16 areas.ring) (nat_le areas.ring 4096 && (are_tiles areas.ring areas.memories && are_tiles 0 areas.results)) least_passes (and_from (nat_le areas.ring 4096) (are_tiles areas.ring areas.memories && are_tiles 0 areas.results) most_passes tiles)

-- the test holds exactly where the areas are lawful
pub lawful_tested : (areas : Areas) (b : Bool) → b ≡ are_lawful areas → (IsTrue b → IsLawfulAreas areas) × (IsLawfulAreas areas → IsTrue b)
lawful_tested areas b e = (λ h. lawful_from_test areas (sym e ∙ h), λ h. e ∙ test_from_lawful areas h)
