-- What a word says as a number.
use Rattle.std.specs.Prelude.{ℕ, ◌^◌, ◌&&◌, List, length, nat_lt, nat_le, if◌then◌else◌, Bool, is_some, unwrap_or, Option, Some, None}
use Rattle.std.specs.List.{list_all}
use Rattle.std.specs.Char.{is_digit}
use Rattle.std.specs.Str.Parse.{digits_value}

-- a word of digits of a base
abbrev pub are_digits : ℕ → List ℕ → Bool
are_digits radix word = list_all (λ digit. is_digit digit radix) word

-- what digits of a base say, where a word has nothing else
abbrev pub digits_said : ℕ → List ℕ → Option ℕ
digits_said radix word = if are_digits radix word then Some (digits_value radix word) else None

-- a word of at least one byte, and at most a given number
abbrev pub is_short : ℕ → List ℕ → Bool
is_short most word = nat_lt 0 (length word) && nat_le (length word) most

-- one to a given number of digits of a base, with a value below the limit
abbrev pub is_number : ℕ → ℕ → ℕ → List ℕ → Bool
is_number radix most limit word =
    is_short most word && are_digits radix word && nat_lt (digits_value radix word) limit

-- the number that such digits say
unfoldable pub number_said : ℕ → ℕ → ℕ → List ℕ → Option ℕ
number_said radix most limit word =
    if is_number radix most limit word then Some (digits_value radix word) else None

-- a decimal number of 32 bits: at most ten digits
abbrev pub decimal_of : List ℕ → Option ℕ
decimal_of word = number_said 10 10 (2 ^ 32) word

-- a decimal number of 64 bits: at most twenty digits
abbrev pub long_decimal_of : List ℕ → Option ℕ
long_decimal_of word = number_said 10 20 (2 ^ 64) word

-- a value: at most eight hexadecimal digits of either case
abbrev pub hex_of : List ℕ → Option ℕ
hex_of word = number_said 16 8 (2 ^ 32) word

-- whether a word is a value
abbrev pub is_value : List ℕ → Bool
is_value word = is_some (hex_of word)

-- the value that a word says
abbrev pub value_of : List ℕ → ℕ
value_of word = unwrap_or (hex_of word) 0
