-- A text as lines, and a line as words.
use Rattle.std.specs.Prelude.{ℕ, Bool, not, ◌||◌, ◌==◌, List, [], ◌∷◌, length, if◌then◌else◌, filter}
use Rattle.std.specs.List.{slice_split}

-- a line feed
abbrev pub ends_line : ℕ → Bool
ends_line byte = byte == 10

-- a space, a tab or a carriage return
abbrev pub is_blank : ℕ → Bool
is_blank byte = byte == 32 || byte == 9 || byte == 13

abbrev pub is_empty : List ℕ → Bool
is_empty bytes = length bytes == 0

-- the pieces, but for a last one that is empty
abbrev pub without_empty_last : List (List ℕ) → List (List ℕ)
without_empty_last [] = []
without_empty_last (piece ∷ []) = if is_empty piece then [] else piece ∷ []
without_empty_last (piece ∷ next ∷ more) = piece ∷ without_empty_last (next ∷ more)

-- the lines of a text are what stands between its line feeds
unfoldable pub lines_of : List ℕ → List (List ℕ)
lines_of text = without_empty_last (slice_split ends_line text)

-- the words of a line are its longest runs without a blank
unfoldable pub words_of : List ℕ → List (List ℕ)
words_of line = filter (λ run. not (is_empty run)) (slice_split is_blank line)
