-- One more memory after those before leaves tiles.
use Rattle.std.proofs.Common.{◌≡◌, ℕ, ◌+◌, ◌≤◌, ◌⊎◌, inl, inr, ⊎_elim, List, length, get_or, set, Option, Some, None, sym, ap, ◌∙◌, arith}
use Rattle.std.specs.Option.{option_map_or}
use Rattle.std.proofs.lemmas.Bool.{cases_eq}
use Rattle.std.proofs.lemmas.Option.{unwrap_or-slice_get}
use Rattle.std.proofs.lemmas.List.{get_or-set_same, get_or-set_other}
use Rattle.std.proofs.lemmas.List.Sums.{sum_by-set}
use Rattle.gpu_cmd.specs.declared.areas.Span.{Span}
use Rattle.gpu_cmd.specs.Spans.{span_at, words_in, AreTiles}

words_of_span : Option Span → ℕ
words_of_span span = option_map_or (λ (s : Span). s.words) span 0

module _ (first : ℕ) (spans : List (Option Span)) (m : ℕ) (new : Span) (tiles : AreTiles first spans) (long : length spans ≡ 16) (number : m ≤ 15) (none : span_at spans m ≡ None) (base : new.base ≡ first + words_in spans) (some : 1 ≤ new.words) (few : words_in spans + new.words ≤ 65536) where
  more : words_in (set spans m (Some new)) ≡ words_in spans + new.words
  unfolding words_of_span
  more =
      let gone : get_or spans m None ≡ None = sym (unwrap_or-slice_get spans m None) ∙ none in
      let grown = sum_by-set words_of_span spans m (Some new) None (omega arith) in
      let nothing : words_of_span (get_or spans m None) ≡ 0 = ap words_of_span gone in
      omega arith

  at_new : span_at (set spans m (Some new)) m ≡ Some new
  at_new = unwrap_or-slice_get (set spans m (Some new)) m None ∙ get_or-set_same spans m (Some new) None (omega arith)

  at_other : (i : ℕ) → (i ≡ m → ⊥) → span_at (set spans m (Some new)) i ≡ span_at spans i
  at_other i other = unwrap_or-slice_get (set spans m (Some new)) i None ∙ get_or-set_other spans m i (Some new) None other ∙ sym (unwrap_or-slice_get spans i None)

  -- a span of the memories is the new one, or one of those before
  found : (i : ℕ) (s : Span) → span_at (set spans m (Some new)) i ≡ Some s → ((i ≡ m) × (s ≡ new)) ⊎ ((i ≡ m → ⊥) × (span_at spans i ≡ Some s))
  found i s e = ⊎_elim (λ same. let here = at_new in inl (same, same_span same)) (λ other. inr (other, sym (at_other i other) ∙ e)) (cases_eq i m)
    where
      same_span : i ≡ m → s ≡ new
      same_span same = let here : span_at (set spans m (Some new)) i ≡ Some new = rw same at_new in let both : Some s ≡ Some new = sym e ∙ here in cc

  pub tiles_grow : AreTiles first (set spans m (Some new))
  tiles_grow = record {
    filled = λ i s e. ⊎_elim (λ h. rw h.1 some) (λ h. tiles.filled i s h.1) (found i s e);
    begun = λ i s e. ⊎_elim (λ h. rw h.1 (omega arith)) (λ h. tiles.begun i s h.1) (found i s e);
    ended = λ i s e. ⊎_elim (λ h. rw (h.1, more) (omega arith)) (λ h. let before = tiles.ended i s h.1 in rw more (omega arith)) (found i s e);
    apart = λ i j s t lt e f.
        ⊎_elim (λ h.
        ⊎_elim (λ k. absurd (omega arith)) (λ k. let before = tiles.ended j t k.1 in inr (rw h.1 (omega arith))) (found j t f))
        (λ h.
        ⊎_elim (λ k. let before = tiles.ended i s h.1 in inl (rw k.1 (omega arith))) (λ k. tiles.apart i j s t lt h.1 k.1) (found j t f))
        (found i s e);
    few = rw more few;
  }
