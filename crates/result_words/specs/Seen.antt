-- What contracts see of the writer and the reader, what a read tells, and what ties each to its seat at the words.
use Rattle.std.specs.Prelude.{◌≡◌, ℕ, ◌+◌, ◌-◌, ◌≤◌, nat_lt, is_none, Option, Some, None, List, [], ◌∷◌, ◌++◌}
use Rattle.std.specs.List.{All}
use Rattle.atomic_table.specs.Seated.{TableId}
use Rattle.gpu_word.specs.Results.{Written}
use Rattle.result_words.specs.declared.view.View.TheVariants.{Writer, Reader}
use Rattle.result_words.specs.Views.{ResultSeat, writer_of, reader_of}
use Rattle.result_words.specs.Rule.{finishes_counted}

-- the words that the service writes, the number of result places, and the values and finishes that it has written
pub record ResultWriterData : Type 0 where
  pub table : TableId
  pub places : ℕ
  pub written : List Written

-- the words that the client reads, the number of result places, the numbers of finishes that it loaded, and its reads:
-- the place, the finishes asked for, and the value
pub record ReaderData : Type 0 where
  pub table : TableId
  pub places : ℕ
  pub counts : List ℕ
  pub reads : List (ℕ × ℕ × ℕ)

-- a writer that has done nothing
abbrev pub writer_at : TableId → ℕ → ResultWriterData
writer_at table places = record { table = table; places = places; written = [] }

-- a reader that has done nothing
abbrev pub reader_at : TableId → ℕ → ReaderData
reader_at table places = record { table = table; places = places; counts = []; reads = [] }

-- what a call adds to the list of reads, by its answer
abbrev pub read_of : ℕ → ℕ → Option ℕ → List (ℕ × ℕ × ℕ)
read_of place at_least (Some value) = (place, at_least, value) ∷ []
read_of place at_least None = []

-- a read by the numbers of finishes loaded before it and by its end: it loads one more, which is no lower than those
-- before, and it answers None exactly where that one is below what was asked for
pub record Answers (before after : List ℕ) (at_least : ℕ) (answer : Option ℕ) : Type 0 where
  pub count : ℕ
  pub loaded : after ≡ before ++ count ∷ []
  pub rises : All (λ earlier. earlier ≤ count) before
  pub exactly : is_none answer ≡ nat_lt count at_least

-- the number that was loaded last is at least this
abbrev pub HasCounted : ℕ → List ℕ → Type 0
HasCounted at_least counts = (earlier : List ℕ) × (count : ℕ) × (counts ≡ earlier ++ count ∷ []) × (at_least ≤ count)

-- there is one word, and one more for each result place
abbrev pub IsWide : TableId → ℕ → Type 0
IsWide table places = table.words ≡ 1 + places

-- the number of result places
abbrev pub result_places : TableId → ℕ
result_places table = table.words - 1

-- what the seat of a writer tells
abbrev pub seen_of_writer : TableId → ResultSeat → ResultWriterData
seen_of_writer table seat = record { table = table; places = result_places table; written = (writer_of seat.0).written }

-- what the seat of a reader tells
abbrev pub seen_of_reader : TableId → ResultSeat → ReaderData
seen_of_reader table seat = record { table = table; places = result_places table; counts = (reader_of seat.0).counts; reads = (reader_of seat.0).reads }

-- the seat is a writer's
abbrev pub IsWriter : ResultSeat → Type 0
IsWriter seat = seat ≡ (Writer (writer_of seat.0), [])

-- the seat is a reader's
abbrev pub IsReader : ResultSeat → Type 0
IsReader seat = seat ≡ (Reader (reader_of seat.0), [])

-- what a writer keeps: its seat is a writer's, and the finishes that it has written are counted
pub record WriterKeeps (finished : ℕ) (seat : ResultSeat) : Type 0 where
  pub is : IsWriter seat
  pub finished_is : finished ≡ finishes_counted (writer_of seat.0).written
