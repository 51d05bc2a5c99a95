-- What the lines of dumps and of looks name.
use Rattle.std.specs.Prelude.{◌≡◌, ℕ, ◌+◌, ◌<◌, ◌^◌, List, [], ◌∷◌, ◌++◌, length, unwrap_or}
use Rattle.journal_text.specs.Digits.{hex8}
use Rattle.journal_text.specs.Lines.{view_text}
use Rattle.verify_input.specs.Said.{own_number, own_value}
use Rattle.verify_input.specs.Reading.{whole_lines}

-- the text begins with a line of so many bytes, which ends with the eight digits of this value
pub record EndsWith (text : List ℕ) (count value : ℕ) : Type 0 where
  pub front : List ℕ
  pub rest : List ℕ
  pub is : text ≡ front ++ hex8 value ++ 10 ∷ rest
  pub counted : length front + 9 ≡ count
  pub small : value < 2 ^ 32

-- the number of events and the sum that the pieces after the first word name; 0 and 0 where they are not three
unfoldable pub look_said : List (List ℕ) → ℕ × ℕ
look_said (viewer ∷ events ∷ sum ∷ []) = (unwrap_or (own_number events) 0, unwrap_or (own_value sum) 0)
look_said _ = (0, 0)

-- the first line of the text is that of a look, with this number of events and this sum
pub record BeginsWithLook (text : List ℕ) (look : ℕ × ℕ) : Type 0 where
  pub viewer : ℕ
  pub rest : List (List ℕ)
  pub is : whole_lines text ≡ view_text viewer look.0 look.1 ∷ rest
  pub known : viewer < 2 ^ 32
  pub few : look.0 < 2 ^ 32
  pub small : look.1 < 2 ^ 32
