-- The words and the queues of all streams.
use Rattle.std.specs.Prelude.{◌≡◌, ℕ, ◌-◌, List, length, map, slice_get, IfSome}
use Rattle.atomic_table.specs.Seated.{TableId}
use Rattle.gpu_plan.specs.Plans.{PlansData}
use Rattle.sync_core.specs.Standing.{IsKnown}
use Rattle.gpu_hall.specs.Words.{AreWordsAt}

-- there are words of each stream, in order, and they are of the tables that are named for it
pub record AreWordsOf (p : PlansData) (tables results : List TableId) (words : List (TableId × TableId)) : Type 0 where
  pub count : length words ≡ length p.plans
  pub each : (s : ℕ) → IsKnown (length p.plans) s → IfSome (slice_get words (s - 1)) (AreWordsAt tables results s)

-- the tables of the shared words, and those of the result words
abbrev pub shared_in : List (TableId × TableId) → List TableId
shared_in words = map (λ (own : TableId × TableId). own.0) words

abbrev pub results_in : List (TableId × TableId) → List TableId
results_in words = map (λ (own : TableId × TableId). own.1) words

-- these are the words and the queues of all streams, in order: the words are of the tables that are named for them, and the queues
-- have their names
pub record AreShared (p : PlansData) (tables results names : List TableId) (words : List (TableId × TableId)) (queues : List TableId) : Type 0 where
  pub words_are : AreWordsOf p tables results words
  pub queues_are : queues ≡ names
  pub queue_count : length names ≡ length p.plans
