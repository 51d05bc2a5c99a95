-- What each seat at a stream's result words knows, and what each step makes of it.
use Rattle.std.specs.Prelude.{◌≡◌, ℕ, ◌-◌, ◌<◌, ◌≤◌, ◌^◌, List, [], ◌∷◌, ◌++◌}
use Rattle.std.specs.List.{All}
use Rattle.atomic_table.specs.Table.{Me, Step}
use Rattle.gpu_word.specs.Results.{Written, Write, Finish, Settles}
use Rattle.result_words.specs.declared.view.WriterView.{WriterView}
use Rattle.result_words.specs.declared.view.ReaderView.{ReaderView}
use Rattle.result_words.specs.declared.view.View.{View}
use Rattle.result_words.specs.declared.view.View.TheVariants.{Writer, Reader, Spent}

-- a seat's view; the words have no slots
abbrev pub ResultSeat : Type 0
ResultSeat = Me (Unit {0}) View

-- a writer that has done nothing
abbrev pub fresh_result_writer : WriterView
fresh_result_writer = record { written = []; taken = [] }

-- a reader that has done nothing
abbrev pub fresh_reader : ReaderView
fresh_reader = record { counts = []; reads = [] }

-- what a writer's view knows
abbrev pub writer_of : View → WriterView
writer_of (Writer writer) = writer
writer_of (Reader reader) = fresh_result_writer
writer_of Spent = fresh_result_writer

-- what a reader's view knows
abbrev pub reader_of : View → ReaderView
reader_of (Reader reader) = reader
reader_of (Writer writer) = fresh_reader
reader_of Spent = fresh_reader

-- one member more was written
abbrev pub with_written : Written → WriterView → WriterView
with_written member writer = record writer { written = writer.written ++ member ∷ [] }

-- the number of finishes was loaded
abbrev pub with_count : ℕ → ReaderView → ReaderView
with_count count reader = record reader { counts = reader.counts ++ count ∷ [] }

-- a result was read: the place, the finishes asked for, and the value
abbrev pub with_read : ℕ × ℕ × ℕ → ReaderView → ReaderView
with_read read reader = record reader { reads = reader.reads ++ read ∷ [] }

-- a reader was taken back
abbrev pub with_taken : List (ℕ × ℕ × ℕ) → WriterView → WriterView
with_taken reads writer = record writer { taken = reads }

-- what a step tells: of the step, the seat before, the value found or stored, and the seat after
abbrev ResultTelling : Type 1
ResultTelling = Step (Unit {0}) → ResultSeat → ℕ → ResultSeat → Type 0

-- a value was written to a result place
abbrev pub stores_result : ResultTelling
stores_result step before value after = after ≡ (Writer (with_written (Write (step.word - 1) step.first) (writer_of before.0)), before.1)

-- one finish more was counted
abbrev pub counts_finish : ResultTelling
counts_finish step before value after = after ≡ (Writer (with_written Finish (writer_of before.0)), before.1)

-- the number of finishes was loaded, and is no lower than at any load before
abbrev pub loads_count : ResultTelling
loads_count step before value after = (after ≡ (Reader (with_count value (reader_of before.0)), before.1)) × All (λ earlier. earlier ≤ value) (reader_of before.0).counts

-- a result was read, which is a value of 32 bits
abbrev pub loads_result : ℕ → ResultTelling
loads_result at_least step before value after = (after ≡ (Reader (with_read (step.word - 1, at_least, value) (reader_of before.0)), before.1)) × (value < 2 ^ 32)

-- nothing changes, and the reads that were taken back are as the rule says
abbrev pub looks_back : ResultTelling
looks_back step before value after = (after ≡ before) × Settles (writer_of before.0).written (writer_of before.0).taken

-- the writer has taken a reader back
abbrev pub taken_back : View → View → View
taken_back writer reader = Writer (with_taken (reader_of reader).reads (writer_of writer))
