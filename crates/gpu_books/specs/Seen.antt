-- What contracts see of a half, and what ties books and halves to their tables and seats.
use Rattle.std.specs.Prelude.{◌≡◌, ℕ, List, [], Option, Some, None, refl}
use Rattle.std.specs.Coded.{Coded, code_by, coded×, coded_ℕ, coded_list}
use Rattle.atomic_table.specs.Seated.{TableId, table_id_coded}
use Rattle.atomic_table.specs.declared.shared.Seat.{Seat}
use Rattle.gpu_books.specs.declared.table.View.{View}
use Rattle.gpu_books.specs.declared.table.View.TheVariants.{Halved}
use Rattle.gpu_books.specs.Views.{BookSeat, weight, half_numbers, six_zeros}

-- the book of a half, and its numbers
pub record HalfData : Type 0 where
  pub book : TableId
  pub numbers : List ℕ

-- a half told as a pair, so that halves can be compared
abbrev pub half_coded : Coded HalfData
half_coded = code_by (TableId × List ℕ) (coded× table_id_coded (coded_list coded_ℕ)) (λ half. (half.book, half.numbers)) (λ pair. record { book = pair.0; numbers = pair.1 }) (λ half. refl)

-- a half of a book, whose numbers are all 0
abbrev pub blank_half : TableId → HalfData
blank_half book = record { book = book; numbers = six_zeros }

-- the table has one word and no slots
abbrev pub IsBook : TableId → Type 0
IsBook table = (table.words ≡ 1) × (table.slots ≡ 0)

-- the name of no book
abbrev pub no_book : TableId
no_book = record { words = 0; slots = 0; views_name = 0; atom = 0; block = 0; offset = 0; slot_names = [] }

-- what the seat of a half tells
abbrev pub half_of : Option (Seat (Unit {0}) View) → HalfData
half_of (Some seat) = record { book = seat.table_id; numbers = half_numbers seat.me.0 }
half_of None = record { book = no_book; numbers = [] }

-- there is a seat, which has a half
abbrev pub IsHalf : Option (Seat (Unit {0}) View) → Type 0
IsHalf (Some seat) = seat.me ≡ (Halved (half_numbers seat.me.0), [])
IsHalf None = ⊥

-- the seat has all of the book
abbrev pub HasWholeBook : BookSeat → Type 0
HasWholeBook seat = (weight seat.0 ≡ 2) × (seat.1 ≡ [])
