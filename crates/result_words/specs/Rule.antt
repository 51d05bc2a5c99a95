-- The rule of the result words, which holds between any two steps.
use Rattle.std.specs.Prelude.{◌≡◌, ◌≢◌, ℕ, ◌+◌, ◌-◌, ◌<◌, ◌≤◌, ◌^◌, min, List, length, slice_index}
use Rattle.std.specs.List.{All}
use mathlib.Core.Option.{some}
use lib.ListN.{get_elem?}
use Rattle.atomic_table.specs.Table.{State}
use Rattle.gpu_word.specs.Results.{Written, finishes_in, last_written, Settles}
use Rattle.result_words.specs.declared.view.WriterView.{WriterView}
use Rattle.result_words.specs.declared.view.View.{View}
use Rattle.result_words.specs.declared.view.View.TheVariants.{Writer, Reader, Spent}

-- the words of a stream, and the views of all seats
abbrev pub ResultState : Type 0
ResultState = State (Unit {0}) View

-- what word 0 says of a list: the number of its finishes, as far as a word of 64 bits goes
abbrev pub finishes_counted : List Written → ℕ
finishes_counted written = min (finishes_in written) (2 ^ 64 - 1)

-- a reader whose reads are settled by what was written, and which loaded no number above that of word 0; or one that was
-- taken back
abbrev pub IsSettled : List Written → View → Type 0
IsSettled written (Reader reader) = Settles written reader.reads × All (λ count. count ≤ finishes_counted written) reader.counts
IsSettled written (Writer writer) = ⊥
IsSettled written Spent = Unit {0}

-- the words hold what a writer has written, by the number of result places: each result word the last value written to its
-- place, which has 32 bits, and word 0 the number of finishes; and the reads that the writer took back are settled
pub record HoldsWritten (places : ℕ) (words : List ℕ) (writer : WriterView) : Type 0 where
  pub wide : length words ≡ 1 + places
  pub results : (place : ℕ) → slice_index words (1 + place) ≡ last_written writer.written place
  pub small : (place : ℕ) → slice_index words (1 + place) < 2 ^ 32
  pub finishes : slice_index words 0 ≡ finishes_counted writer.written
  pub taken : Settles writer.written writer.taken

-- the rule of the result words: there is one writer, the words hold what it has written, and each other view is settled by
-- that
pub record KeepsResults (places : ℕ) (s : ResultState) : Type 0 where
  pub seat : ℕ
  pub writer : WriterView
  pub writer_there : get_elem? s.views seat ≡ some (Writer writer)
  pub others : (other : ℕ) (view : View) → other ≢ seat → get_elem? s.views other ≡ some view → IsSettled writer.written view
  pub holds : HoldsWritten places s.words writer
