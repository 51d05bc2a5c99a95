-- A text and its first line, and a text that is cut where a part of it ends.
use Rattle.std.specs.Prelude.{◌≡◌, ℕ, ◌<◌, ◌⊎◌, List, [], ◌∷◌, ◌++◌, length, drop, Some, None, MatchOption}
use Rattle.verify_input.specs.Reading.{HasNoFeed, whole_lines}
use Rattle.verify_input.specs.Parts.{before, behind}
use Rattle.verify_input.specs.declared.border.Border.{Border}
use Rattle.verify_input.specs.declared.cut.Cut.{Cut}

-- the line, without its line feed, is the first of the text, and this stands after it; the last line may have no line feed
abbrev pub IsFirstLine : List ℕ → List ℕ → List ℕ → Type 0
IsFirstLine text line rest = HasNoFeed line × ((text ≡ line ++ 10 ∷ rest) ⊎ ((text ≡ line) × (rest ≡ []) × (0 < length line)))

-- the text is one line with its line feed
pub record IsLine (text : List ℕ) : Type 0 where
  pub line : List ℕ
  pub none : HasNoFeed line
  pub is : text ≡ line ++ 10 ∷ []

-- the text is cut at the first line that ends this part: the lines before it and how many they are, those after it, and all that
-- are left after the lines before it
pub record IsCutAt (border : Border) (text : List ℕ) (cut : Cut) : Type 0 where
  pub front : whole_lines cut.part.now ≡ before border (whole_lines text)
  pub count : cut.lines ≡ length (before border (whole_lines text))
  pub rest : MatchOption cut.rest (behind border (whole_lines text) ≡ None) (λ rest. behind border (whole_lines text) ≡ Some (whole_lines rest.now))
  pub left : whole_lines (drop (length cut.part.now) text) ≡ drop (length (before border (whole_lines text))) (whole_lines text)
