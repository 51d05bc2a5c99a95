-- Lawful areas as tests that compute.
use Rattle.std.specs.Prelude.{ℕ, ◌+◌, Bool, true, ◌&&◌, ◌||◌, nat_le, List, [], ◌∷◌, Option}
use Rattle.std.specs.Option.{option_map_or}
use Rattle.std.specs.List.{list_all}
use Rattle.gpu_cmd.specs.declared.areas.Areas.{Areas}
use Rattle.gpu_cmd.specs.declared.areas.Span.{Span}
use Rattle.gpu_cmd.specs.declared.areas.TheConstants.{LEAST_RING, MOST_RING, MOST_WORDS}
use Rattle.gpu_cmd.specs.Spans.{words_in}

-- the span has a word, and lies between two places
abbrev pub lies_among : ℕ → ℕ → Span → Bool
lies_among first end span = nat_le 1 span.words && (nat_le first span.base && nat_le (span.base + span.words) end)

-- the spans share no place
abbrev pub is_apart : Span → Span → Bool
is_apart s t = nat_le (s.base + s.words) t.base || nat_le (t.base + t.words) s.base

-- each declared span passes
abbrev pub each_declared : (Span → Bool) → List (Option Span) → Bool
each_declared test spans = list_all (λ span. option_map_or test span true) spans

-- no declared span shares a place with a later one
abbrev pub all_apart : List (Option Span) → Bool
all_apart [] = true
all_apart (span ∷ spans) = option_map_or (λ s. each_declared (is_apart s) spans) span true && all_apart spans

-- the declared spans are tiles from a first place on
abbrev pub are_tiles : ℕ → List (Option Span) → Bool
are_tiles first spans = nat_le (words_in spans) MOST_WORDS && (each_declared (lies_among first (first + words_in spans)) spans && all_apart spans)

-- the areas are lawful
abbrev pub are_lawful : Areas → Bool
are_lawful areas = nat_le LEAST_RING areas.ring && (nat_le areas.ring MOST_RING && (are_tiles areas.ring areas.memories && are_tiles 0 areas.results))
