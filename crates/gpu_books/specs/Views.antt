-- What each seat at a book knows, and what each step makes of it.
use Rattle.std.specs.Prelude.{◌≡◌, ℕ, List, [], replicate}
use Rattle.atomic_table.specs.Table.{Me, Step}
use Rattle.gpu_books.specs.declared.table.View.{View}
use Rattle.gpu_books.specs.declared.table.View.TheVariants.{Full, Joined, Halved, Spent}

-- a seat's view; a book has no slots
abbrev pub BookSeat : Type 0
BookSeat = Me (Unit {0}) View

-- a full view weighs as much as two halves, and a spent one nothing
abbrev pub weight : View → ℕ
weight (Full numbers) = 2
weight (Joined numbers others) = 2
weight (Halved numbers) = 1
weight Spent = 0

-- the numbers that a view carries
abbrev pub half_numbers : View → List ℕ
half_numbers (Full numbers) = numbers
half_numbers (Joined numbers others) = numbers
half_numbers (Halved numbers) = numbers
half_numbers Spent = []

-- the numbers of the half that was joined in, and where there is none the view's own
abbrev pub joined_of : View → List ℕ
joined_of (Full numbers) = numbers
joined_of (Joined numbers others) = others
joined_of (Halved numbers) = numbers
joined_of Spent = []

-- six numbers, all 0
abbrev pub six_zeros : List ℕ
six_zeros = replicate 6 0

-- the one view of a new book
abbrev pub opened : View
opened = Full six_zeros

-- a full view is cut into two halves that have its numbers
abbrev pub halved : View → View
halved view = Halved (half_numbers view)

-- one half is joined into the other, and the numbers of both are known
abbrev pub halves_joined : View → View → View
halves_joined view other = Joined (half_numbers view) (half_numbers other)

-- a load changes nothing, and tells that the numbers of both halves were equal
abbrev pub compares : Step (Unit {0}) → BookSeat → ℕ → BookSeat → Type 0
compares step before value after = (after ≡ before) × (half_numbers before.0 ≡ joined_of before.0)

-- a load through a full view gives it other numbers: they are named at the call, and no word has them
abbrev pub renumbers : List ℕ → Step (Unit {0}) → BookSeat → ℕ → BookSeat → Type 0
renumbers numbers step before value after = after ≡ (Full numbers, before.1)
