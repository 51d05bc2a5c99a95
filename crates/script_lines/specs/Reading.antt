-- What stands first on a line or in a text, and what after it.
use Rattle.std.specs.Prelude.{◌≡◌, ℕ, ◌^◌, Option, Some, List, [], ◌∷◌, MatchOption}
use Rattle.std.specs.Borrow.{Bor}
use Rattle.script_lines.specs.Text.{words_of}
use Rattle.script_lines.specs.Numbers.{number_said}

-- of the pieces that bytes make up, this is the first, and these bytes make up the others
abbrev pub BeginsWith : (List ℕ → List (List ℕ)) → List ℕ → List ℕ → List ℕ → Type 0
BeginsWith pieces bytes piece rest = pieces bytes ≡ piece ∷ pieces rest

-- the first piece and what makes up the others; nothing where there is no piece
abbrev pub CutsFirst : (List ℕ → List (List ℕ)) → List ℕ → Option (Bor (List ℕ) × Bor (List ℕ)) → Type 0
CutsFirst pieces bytes result =
    MatchOption result (pieces bytes ≡ []) (λ cut. BeginsWith pieces bytes cut.0.now cut.1.now)

-- the first word of a line, read in some way, says this, and these bytes have the words after it
pub record IsFirstRead {X : Type 0} (read : List ℕ → X) (line : List ℕ) (said : X)
    (rest : List ℕ) : Type 0 where
  pub word : List ℕ
  pub begins : BeginsWith words_of line word rest
  pub says : said ≡ read word

-- what the first word says, and what has the words after it; nothing where there is no word
abbrev pub ReadsFirst : {X : Type 0} → (List ℕ → X) → List ℕ → Option (X × Bor (List ℕ)) → Type 0
ReadsFirst read line result =
    MatchOption result (words_of line ≡ []) (λ first. IsFirstRead read line first.0 first.1.now)

-- the first word of a line is one to eight digits of a base, which say this number
abbrev pub IsShortNumber : ℕ → List ℕ → ℕ → List ℕ → Type 0
IsShortNumber radix line number rest =
    IsFirstRead (number_said radix 8 (2 ^ 32)) line (Some number) rest
