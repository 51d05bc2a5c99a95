-- What a text begins with, as a journal spells it.
use Rattle.std.specs.Prelude.{◌≡◌, ℕ, ◌==◌, ◌<◌, ◌^◌, Bool, List, [], ◌∷◌, ◌++◌}
use Rattle.journal_text.specs.Digits.{numeral, hex8}
use Rattle.verify_input.specs.Reading.{IsWord}

-- nothing, or a space and what stands after it
abbrev pub IsCut : List ℕ → Type 0
IsCut [] = Unit {0}
IsCut (byte ∷ text) = byte ≡ 32

-- a colon
abbrev pub is_colon : ℕ → Bool
is_colon byte = byte == 58

-- the text is the eight digits of the value, and this stands after them
pub record HasValue (text : List ℕ) (value : ℕ) (rest : List ℕ) : Type 0 where
  pub is : text ≡ hex8 value ++ rest
  pub small : value < 2 ^ 32
  pub cut : IsCut rest

-- the text is that of no value
abbrev pub HasNoValue : List ℕ → Type 0
HasNoValue text = (value : ℕ) (rest : List ℕ) → HasValue text value rest → ⊥

-- the text is a place, a colon and the eight digits of a value, and this stands after them
pub record HasWord (text : List ℕ) (word : ℕ × ℕ) (rest : List ℕ) : Type 0 where
  pub is : text ≡ numeral word.0 ++ 58 ∷ (hex8 word.1 ++ rest)
  pub small : IsWord word
  pub cut : IsCut rest

-- the text is that of no word
abbrev pub HasNoWord : List ℕ → Type 0
HasNoWord text = (word : ℕ × ℕ) (rest : List ℕ) → HasWord text word rest → ⊥
