-- The rule of a book, which holds between any two steps.
use Rattle.std.specs.Prelude.{◌≡◌, ℕ, ◌+◌, List, [], ◌∷◌}
use mathlib.Core.Option.{some}
use lib.ListN.{get_elem?}
use Rattle.atomic_table.specs.Table.{State}
use Rattle.gpu_books.specs.declared.table.View.{View}
use Rattle.gpu_books.specs.declared.table.View.TheVariants.{Full, Joined, Halved, Spent}
use Rattle.gpu_books.specs.Views.{weight}

-- the word of a book, and the views of all seats
abbrev pub BookState : Type 0
BookState = State (Unit {0}) View

-- the weights of all views together
abbrev pub weights : List View → ℕ
weights [] = 0
weights (view ∷ views) = weight view + weights views

-- a view has these numbers alone; a spent view has none
abbrev pub HasOnly : List ℕ → View → Type 0
HasOnly numbers (Full own) = own ≡ numbers
HasOnly numbers (Joined own others) = (own ≡ numbers) × (others ≡ numbers)
HasOnly numbers (Halved own) = own ≡ numbers
HasOnly numbers Spent = Unit {0}

-- the rule of a book: all views together weigh two halves, and the numbers of each are those of the book. The word says
-- nothing.
pub record KeepsBook (s : BookState) : Type 0 where
  pub two_halves : weights s.views ≡ 2
  pub numbers : List ℕ
  pub same : (seat : ℕ) (view : View) → get_elem? s.views seat ≡ some view → HasOnly numbers view
