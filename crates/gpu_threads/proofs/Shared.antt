-- What belongs to one stream, among that of all.
use Rattle.std.proofs.Common.{◌≡◌, ℕ, ◌-◌, Option, Some, None, List, length, map, get_or, refl, sym, ap, ◌∙◌}
use Rattle.std.proofs.lemmas.List.{get_or-map}
use Rattle.std.proofs.lemmas.Option.{get_or_from_slice_get, slice_get_within}
use Rattle.std.specs.Prelude.{slice_get, IfSome}
use Rattle.atomic_table.specs.Seated.{TableId}
use Rattle.gpu_plan.specs.Plans.{PlansData}
use Rattle.gpu_fetch.specs.Side.{no_table}
use Rattle.sync_core.specs.Standing.{IsKnown}
use Rattle.sync_core.proofs.Rows.{position_of}
use Rattle.gpu_house.specs.Names.{table_at}
use Rattle.gpu_hall.specs.Words.{AreWordsAt}
use Rattle.gpu_threads.specs.Rows.{AreWordsOf, shared_in, results_in}

-- the words of each stream are of its tables
pub shared_words : (p : PlansData) (tables results : List TableId) (words : List (TableId × TableId)) → shared_in words ≡ tables → results_in words ≡ results → length words ≡ length p.plans → AreWordsOf p tables results words
shared_words p tables results words words_are results_are count = record { count = count; each = at }
  where
    at : (s : ℕ) → IsKnown (length p.plans) s → IfSome (slice_get words (s - 1)) (AreWordsAt tables results s)
    at s known = by (slice_get words (s - 1)) refl
      where
        found : (f : TableId × TableId → TableId) (row : List TableId) (own : TableId × TableId) → slice_get words (s - 1) ≡ Some own → map f words ≡ row → f own ≡ table_at row s
        found f row own e is =
            ap f (sym (get_or_from_slice_get words (s - 1) own own e))
            ∙ sym (get_or-map f words (s - 1) own no_table (slice_get_within words (s - 1) own e))
            ∙ ap (λ (row : List TableId). get_or row (s - 1) no_table) is
            ∙ ap (table_at row) (position_of (length p.plans) s known).0

        by : (o : Option (TableId × TableId)) → slice_get words (s - 1) ≡ o → IfSome o (AreWordsAt tables results s)
        by None e = tt
        by (Some own) e = (found (λ (own : TableId × TableId). own.0) tables own e words_are, found (λ (own : TableId × TableId). own.1) results own e results_are)
