-- The words of a stream with its result words beside them.
use Rattle.std.specs.Prelude.{◌≡◌, ℕ, List}
use Rattle.atomic_table.specs.Seated.{TableId}
use Rattle.gpu_house.specs.Names.{table_at}

-- the words of stream s: shared words and result words, each of the table that is named for it
abbrev pub AreWordsAt : List TableId → List TableId → ℕ → TableId × TableId → Type 0
AreWordsAt words results s own = (own.0 ≡ table_at words s) × (own.1 ≡ table_at results s)
