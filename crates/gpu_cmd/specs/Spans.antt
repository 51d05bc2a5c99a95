-- Spans of places, by the numbers of their memories.
use Rattle.std.specs.Prelude.{◌≡◌, ℕ, ◌+◌, ◌≤◌, ◌<◌, ◌⊎◌, List, Option, Some, None, unwrap_or, slice_get, sum_by}
use Rattle.std.specs.Option.{option_map_or}
use Rattle.gpu_cmd.specs.declared.areas.Span.{Span}
use Rattle.gpu_cmd.specs.declared.areas.TheConstants.{MOST_WORDS}

-- the span of a memory, where it is declared
abbrev pub span_at : List (Option Span) → ℕ → Option Span
span_at spans memory = unwrap_or (slice_get spans memory) None

-- how many words the declared memories have in all
abbrev pub words_in : List (Option Span) → ℕ
words_in spans = sum_by (λ span. option_map_or (λ (s : Span). s.words) span 0) spans

-- two spans share no place
abbrev pub AreApart : Span → Span → Type 0
AreApart s t = (s.base + s.words ≤ t.base) ⊎ (t.base + t.words ≤ s.base)

-- the declared spans lie end to end from a first place on, in some order, with at least 1 word each and at most
-- 65,536 in all: they lie among as many places as they have words, and share none
pub record AreTiles (first : ℕ) (spans : List (Option Span)) : Type 0 where
  pub filled : (i : ℕ) (s : Span) → span_at spans i ≡ Some s → 1 ≤ s.words
  pub begun : (i : ℕ) (s : Span) → span_at spans i ≡ Some s → first ≤ s.base
  pub ended : (i : ℕ) (s : Span) → span_at spans i ≡ Some s → s.base + s.words ≤ first + words_in spans
  pub apart : (i j : ℕ) (s t : Span) → i < j → span_at spans i ≡ Some s → span_at spans j ≡ Some t → AreApart s t
  pub few : words_in spans ≤ MOST_WORDS
