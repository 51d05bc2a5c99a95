-- Numbers as digits.
use Rattle.std.specs.Prelude.{ℕ, zero, suc, ◌+◌, ◌/◌, ◌%◌, true, false, nat_lt, List, [], ◌∷◌, ◌++◌, codes}
use Rattle.std.specs.Char.{digit_char}

-- the decimal digits of a number, at most a given number of them, without a leading zero; the code of `0` is 48
abbrev pub digits_within : ℕ → ℕ → List ℕ
digits_within zero number = []
digits_within (suc count) number =
    elim (nat_lt number 10) [ true ↦ (48 + number) ∷ [] | false ↦ digits_within count (number / 10) ++ (48 + number % 10) ∷ [] ]

-- a number in decimal digits, of which it has no more than its value and one
unfoldable pub numeral : ℕ → List ℕ
numeral number = digits_within (suc number) number

-- a given number of the last hexadecimal digits of a number, in lower case
abbrev pub hex_digits : ℕ → ℕ → List ℕ
hex_digits zero number = []
hex_digits (suc count) number = hex_digits count (number / 16) ++ digit_char (number % 16) ∷ []

-- a number of 32 bits as eight hexadecimal digits
unfoldable pub hex8 : ℕ → List ℕ
hex8 number = hex_digits 8 number

-- a space and a number in decimal digits
abbrev pub number_text : ℕ → List ℕ
number_text number = codes " " ++ numeral number
