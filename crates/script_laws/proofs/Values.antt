-- A value that is written in hexadecimal digits is read back as one.
use Rattle.std.proofs.Common.{◌≡◌, ℕ, zero, suc, eqb, ◌+◌, ◌*◌, ◌/◌, ◌%◌, ◌^◌, ◌<◌, ◌≤◌, Bool, true, false, cond, List, [], ◌∷◌, length, map, refl, arith}
use Rattle.std.specs.Prelude.{nat_lt}
use Rattle.std.specs.List.{list_all}
use Rattle.std.specs.Char.{is_digit, digit_value}
use Rattle.std.specs.Fmt.{digits, digits_onto, digit_glyph}
use Rattle.std.specs.Str.Parse.{digits_value, AllDigits}
use Rattle.std.proofs.lemmas.Bool.{ltb-true, ltb-false, lt-ltb, le-leb, ne_eqb, and_parts, and_from}
use Rattle.std.proofs.lemmas.Fmt.{digits_is_IsNumeral}
use native.Mathlib.Numerals.{unary_clauses}
use Rattle.script_lines.specs.Numbers.{number_said, is_value}
use Rattle.script_laws.proofs.Words.{is_plain, is_word}

-- a value in digits
abbrev pub hex : ℕ → List ℕ
hex value = digits 16 false value

-- whether a value has 32 bits
abbrev pub is_small : ℕ → Bool
is_small value = nat_lt value (2 ^ 32)

-- ---- a digit is no blank

low_cond : (b : Bool) (more : ℕ) → cond b 36 more < 16 → b ≡ false
low_cond true more small = absurd (omega arith)
low_cond false more small = refl

from_zero : (c : ℕ) → digit_value c < 16 → 48 ≤ c
from_zero c small = let low = low_cond (nat_lt c 48) _ small in omega (arith, ltb-false c 48 low)

digit_is_plain : (c : ℕ) → digit_value c < 16 → is_plain c ≡ true
digit_is_plain c small =
    let high = from_zero c small in
    rw (ne_eqb c 32 (omega arith), ne_eqb c 9 (omega arith), ne_eqb c 13 (omega arith), ne_eqb c 10 (omega arith)) refl

all_plain : (ds : List ℕ) → AllDigits 16 ds → list_all is_plain ds ≡ true
all_plain [] h = refl
all_plain (c ∷ cs) h = and_from (is_plain c) (list_all is_plain cs) (digit_is_plain c h.0) (all_plain cs h.1)

all_digits : (ds : List ℕ) → AllDigits 16 ds → list_all (λ digit. is_digit digit 16) ds ≡ true
all_digits [] h = refl
all_digits (c ∷ cs) h = and_from (is_digit c 16) (list_all (λ digit. is_digit digit 16) cs) (lt-ltb (digit_value c) 16 h.0) (all_digits cs h.1)

-- ---- a value of 32 bits has at most eight digits

short_cond : (b : Bool) (n j : ℕ) (xs ys : List ℕ) → length xs ≤ n → (b ≡ false → length ys ≤ n) → length (cond b xs ys) ≤ n
short_cond true n j xs ys one more = one
short_cond false n j xs ys one more = more refl

short : (k j n : ℕ) (acc : List ℕ) → n < 16 ^ j → 1 ≤ j → length (digits_onto k 16 false n acc) ≤ length acc + j
short zero j n acc small some = omega arith
short (suc k) zero n acc small some = absurd (omega arith)
short (suc k) (suc zero) n acc small some =
    let none : n / 16 ≡ 0 = omega arith in
    rw none (omega arith)
short (suc k) (suc (suc j)) n acc small some =
    let power : 16 ^ suc (suc j) ≡ 16 ^ suc j * 16 = simp unary_clauses in
    let rest = short k (suc j) (n / 16) (digit_glyph false (n % 16) ∷ acc) (omega arith) (omega arith) in
    short_cond (eqb (n / 16) 0) (length acc + suc (suc j)) j (digit_glyph false (n % 16) ∷ acc) (digits_onto k 16 false (n / 16) (digit_glyph false (n % 16) ∷ acc)) (omega arith) (λ e. omega arith)

pub few_digits : (value : ℕ) → value < 2 ^ 32 → length (hex value) ≤ 8
unfolding digits
few_digits value small = short 64 8 value [] (omega arith) (omega arith)

module _ (value : ℕ) (small : value < 2 ^ 32) where
  numeral : (0 < length (hex value)) × AllDigits 16 (hex value) × (digits_value 16 (hex value) ≡ value)
  numeral = let both = digits_is_IsNumeral 16 false (omega arith) (omega arith) value (omega arith) in (both.0.0, both.0.1, both.1)

  pub hex_is_word : is_word (hex value) ≡ true
  hex_is_word = rw (ne_eqb (length (hex value)) 0 (omega (arith, numeral.0))) (all_plain (hex value) numeral.1)

  pub hex_is_value : is_value (hex value) ≡ true
  unfolding number_said
  hex_is_value =
      let below : nat_lt (digits_value 16 (hex value)) (2 ^ 32) ≡ true = lt-ltb _ _ (omega (arith, numeral.2)) in
      rw (lt-ltb 0 (length (hex value)) numeral.0, le-leb (length (hex value)) 8 (few_digits value small), all_digits (hex value) numeral.1, below) refl

pub hexes_are_words : (values : List ℕ) → list_all is_small values ≡ true → list_all is_word (map hex values) ≡ true
hexes_are_words [] h = refl
hexes_are_words (value ∷ values) h = let both = and_parts (is_small value) (list_all is_small values) h in and_from (is_word (hex value)) (list_all is_word (map hex values)) (hex_is_word value (ltb-true _ _ both.0)) (hexes_are_words values both.1)

pub hexes_are_values : (values : List ℕ) → list_all is_small values ≡ true → list_all is_value (map hex values) ≡ true
hexes_are_values [] h = refl
hexes_are_values (value ∷ values) h = let both = and_parts (is_small value) (list_all is_small values) h in and_from (is_value (hex value)) (list_all is_value (map hex values)) (hex_is_value value (ltb-true _ _ both.0)) (hexes_are_values values both.1)
