-- A number that a line begins with, read up to the blank after it.
use Rattle.std.proofs.Common.{◌≡◌, ℕ, zero, suc, ◌+◌, ◌*◌, ◌^◌, ◌<◌, ◌≤◌, Bool, true, false, not, eqb, List, [], ◌∷◌, length, get_or, take, drop, Option, Some, None, refl, sym, ap, subst, ◌∙◌, arith}
use Rattle.std.specs.Prelude.{position, map, ◌==◌, nat_lt, nat_le}
use Rattle.std.specs.List.{list_all, position_or_len}
use Rattle.std.specs.Char.{is_digit, digit_value}
use Rattle.std.specs.Str.Parse.{digits_value}
use Rattle.std.proofs.lemmas.Bool.{ltb-true, lt-ltb, le-leb, leb-true, ne_eqb, and_parts, not-true, true_from_ne_false, false≢true, true≢false}
use Rattle.std.proofs.lemmas.Option.{cond_some}
use Rattle.std.proofs.lemmas.List.{get_or-take, length-take, take_all}
use Rattle.std.proofs.lemmas.List.Folds.{list_all_at}
use Rattle.std.proofs.lemmas.List.Sums.{passes_at_first}
use Rattle.std.proofs.Math.Nat.{mul-le-mul_left}
use Rattle.script_lines.specs.Text.{is_blank, is_empty, words_of}
use Rattle.script_lines.specs.Numbers.{number_said, decimal_of, hex_of}
use Rattle.script_lines.specs.Reading.{IsFirstRead, IsShortNumber}
use Rattle.script_lines.proofs.Cuts.{found_at, found_nowhere, words_found, words_last, words_none}
use Rattle.script_lines.proofs.Digits.{value_below, digits_step, value_step}

-- ---- the end of the first word

unbroken_at : (line : List ℕ) (count k : ℕ) → list_all (λ byte. not (is_blank byte)) (take count line) ≡ true → k < count → count ≤ length line → is_blank (get_or line k 0) ≡ false
unbroken_at line count k all lt within =
    let p : ℕ → Bool = λ byte. not (is_blank byte) in
    let far : k < length (take count line) = omega (arith, length-take count line) in
    let passes : p (get_or (take count line) k 0) ≡ true = true_from_ne_false _ (λ no. false≢true (sym (list_all_at p (take count line) k 0 far no) ∙ all)) in
    not-true _ (subst (λ byte. p byte ≡ true) (get_or-take count line k 0 lt) passes)

word_of : (line : List ℕ) (count : ℕ) → 0 < count → count ≤ length line → eqb (length (take count line)) 0 ≡ false
word_of line count some within = ne_eqb (length (take count line)) 0 (λ e. omega (arith, length-take count line))

-- a word that goes up to the line's end
pub ends_word : (line : List ℕ) (count : ℕ) → 0 < count → count ≡ length line → list_all (λ byte. not (is_blank byte)) (take count line) ≡ true → words_of line ≡ take count line ∷ words_of []
ends_word line count some at all =
    let whole : take count line ≡ line = take_all count line (omega arith) in
    let none = found_nowhere is_blank line (λ k lt. unbroken_at line count k all (omega arith) (omega arith)) in
    let filled : is_empty line ≡ false = ne_eqb (length line) 0 (λ e. omega arith) in
    words_last line none ∙ rw (filled, whole, words_none [] refl) refl

-- a word that goes up to a blank
pub cuts_word : (line : List ℕ) (count : ℕ) → 0 < count → count < length line → list_all (λ byte. not (is_blank byte)) (take count line) ≡ true → is_blank (get_or line count 0) ≡ true → words_of line ≡ take count line ∷ words_of (drop (count + 1) line)
cuts_word line count some lt all blank =
    let found = found_at is_blank line count lt (λ k less. unbroken_at line count k all less (omega arith)) blank in
    words_found line count (take count line) found refl (word_of line count some (omega arith))

counts_some : (word : List ℕ) (words : List (List ℕ)) → not (eqb (length (word ∷ words)) 0) ≡ true
counts_some word words = rw (ne_eqb (length (word ∷ words)) 0 (λ e. omega arith)) refl

-- a line whose first byte is no blank has a word
word_by_end : (line : List ℕ) (end : Option ℕ) → position is_blank line ≡ end → 0 < length line → is_blank (get_or line 0 0) ≡ false → not (eqb (length (words_of line)) 0) ≡ true
word_by_end line None e some unblank =
    let filled : is_empty line ≡ false = ne_eqb (length line) 0 (λ none. omega arith) in
    rw (words_last line e, filled) (counts_some line [])
word_by_end line (Some end) e some unblank =
    let f = cond_some (nat_lt (position_or_len is_blank line) (length line)) (position_or_len is_blank line) end e in
    let within = ltb-true _ _ f.0 in
    let blank : is_blank (get_or line end 0) ≡ true = subst (λ k. is_blank (get_or line k 0) ≡ true) f.1 (passes_at_first is_blank line 0 within) in
    let later : end ≡ 0 → ⊥ = λ zero. true≢false (sym (subst (λ k. is_blank (get_or line k 0) ≡ true) zero blank) ∙ unblank) in
    let last : end < length line = subst (λ k. k < length line) f.1 within in
    rw (words_found line end (take end line) e refl (word_of line end (omega arith) (omega arith))) (counts_some (take end line) (words_of (drop (end + 1) line)))

pub word_there : (line : List ℕ) → 0 < length line → is_blank (get_or line 0 0) ≡ false → true ≡ not (length (words_of line) == 0)
word_there line some unblank = sym (word_by_end line (position is_blank line) refl some unblank)

-- ---- digits

digit_is_no_blank : (c radix : ℕ) → radix ≤ 16 → is_digit c radix ≡ true → not (is_blank c) ≡ true
digit_is_no_blank c radix low digit =
    let small : digit_value c < radix = ltb-true _ _ digit in
    let space : c ≡ 32 → ⊥ = λ is. let d : digit_value 32 < radix = subst (λ x. digit_value x < radix) is small in omega arith in
    let tab : c ≡ 9 → ⊥ = λ is. let d : digit_value 9 < radix = subst (λ x. digit_value x < radix) is small in omega arith in
    let carriage : c ≡ 13 → ⊥ = λ is. let d : digit_value 13 < radix = subst (λ x. digit_value x < radix) is small in omega arith in
    rw (ne_eqb c 32 space, ne_eqb c 9 tab, ne_eqb c 13 carriage) refl

digits_unbroken : (radix : ℕ) (word : List ℕ) → radix ≤ 16 → list_all (λ c. is_digit c radix) word ≡ true → list_all (λ byte. not (is_blank byte)) word ≡ true
digits_unbroken radix [] low all = refl
digits_unbroken radix (c ∷ cs) low all =
    let both = and_parts (is_digit c radix) (list_all (λ c. is_digit c radix) cs) all in
    rw (digit_is_no_blank c radix low both.0) (digits_unbroken radix cs low both.1)

take_front : (count most : ℕ) (xs : List ℕ) → count ≤ most → take count (take most xs) ≡ take count xs
take_front zero most xs le = refl
take_front (suc n) zero xs le = absurd (omega arith)
take_front (suc n) (suc m) [] le = refl
take_front (suc n) (suc m) (x ∷ xs) le = ap (λ (ys : List ℕ). x ∷ ys) (take_front n m xs (omega arith))

-- up to seven digits leave room for one more
pub short_room : (radix : ℕ) (word : List ℕ) (i value digit : ℕ) → radix ≤ 16 → i ≤ 7 → list_all (λ c. is_digit c radix) (take i word) ≡ true → value ≡ digits_value radix (take i word) → digit < radix → value * radix + digit < 2 ^ 32
short_room radix word i value digit low short all is less =
    let small : digits_value radix (take i word) < 16 ^ 7 = value_below radix word i 7 low short all in
    let scaled : value * radix ≤ value * 16 = mul-le-mul_left value low in
    omega arith

short_says : (radix value : ℕ) (word : List ℕ) → 0 < length word → length word ≤ 8 → list_all (λ c. is_digit c radix) word ≡ true → value ≡ digits_value radix word → digits_value radix word < 2 ^ 32 → Some value ≡ number_said radix 8 (2 ^ 32) word
unfolding number_said
short_says radix value word some short all is small =
    rw (lt-ltb 0 (length word) some, le-leb (length word) 8 short, all, lt-ltb (digits_value radix word) (2 ^ 32) small) (ap (λ (n : ℕ). Some n) is)

-- the facts of the first eight bytes hold of the line
module _ (line front : List ℕ) (count : ℕ) (first : front ≡ take 8 line) (few : count ≤ length front) where
  few_of : count ≤ 8
  few_of = omega (arith, length-take 8 line, ap length first)

  within_of : count ≤ length line
  within_of = omega (arith, length-take 8 line, ap length first)

  same_of : take count front ≡ take count line
  same_of = rw first (take_front count 8 line few_of)

  digits_of : (radix : ℕ) → list_all (λ c. is_digit c radix) (take count front) ≡ true → list_all (λ c. is_digit c radix) (take count line) ≡ true
  digits_of radix all = subst (λ (word : List ℕ). list_all (λ c. is_digit c radix) word ≡ true) same_of all

  pub front_unbroken : (radix : ℕ) → radix ≤ 16 → list_all (λ c. is_digit c radix) (take count front) ≡ true → list_all (λ byte. not (is_blank byte)) (take count line) ≡ true
  front_unbroken radix low all = digits_unbroken radix (take count line) low (digits_of radix all)

  pub short_read : (radix value : ℕ) (rest : List ℕ) → radix ≤ 16 → 0 < count → list_all (λ c. is_digit c radix) (take count front) ≡ true → value ≡ digits_value radix (take count front) → words_of line ≡ take count line ∷ words_of rest → IsShortNumber radix line value rest
  short_read radix value rest low some all is begins =
      let all_of = digits_of radix all in
      let small : digits_value radix (take count line) < 16 ^ 8 = value_below radix line count 8 low few_of all_of in
      let most = few_of in
      let within = within_of in
      record {
        word = take count line;
        begins = begins;
        says = short_says radix value (take count line) (omega (arith, length-take count line)) (omega (arith, length-take count line)) all_of (is ∙ ap (digits_value radix) same_of) (omega arith);
      }

-- a line that begins with one digit
module _ (line : List ℕ) (digit : ℕ) (some : 0 < length line) (is : digit ≡ digit_value (get_or line 0 0)) (small : digit < 16) where
  front_some : 0 < length (take 8 line)
  front_some = omega (arith, length-take 8 line)

  first_of : get_or line 0 0 ≡ get_or (take 8 line) 0 0
  first_of = sym (get_or-take 8 line 0 0 (omega arith))

  one_all : list_all (λ c. is_digit c 16) (take 1 (take 8 line)) ≡ true
  one_all = digits_step 16 (take 8 line) 0 (get_or line 0 0) front_some first_of (subst (λ (d : ℕ). d < 16) is small) refl

  one_is : digit ≡ digits_value 16 (take 1 (take 8 line))
  one_is = let plain : digit ≡ 0 * 16 + digit = omega arith in plain ∙ value_step 16 (take 8 line) 0 (get_or line 0 0) 0 digit front_some first_of is refl

  pub one_unbroken : list_all (λ byte. not (is_blank byte)) (take 1 line) ≡ true
  one_unbroken = front_unbroken line (take 8 line) 1 refl front_some 16 (omega arith) one_all

  pub one_read : (rest : List ℕ) → words_of line ≡ take 1 line ∷ words_of rest → IsShortNumber 16 line digit rest
  one_read rest begins = short_read line (take 8 line) 1 refl front_some 16 digit rest (omega arith) (omega arith) one_all one_is begins

-- a number of up to eight digits is one of up to ten
longer : (radix limit value : ℕ) (word : List ℕ) → Some value ≡ number_said radix 8 limit word → Some value ≡ number_said radix 10 limit word
unfolding number_said
longer radix limit value word says =
    let f = cond_some _ (digits_value radix word) value (sym says) in
    let inner = and_parts _ (nat_lt (digits_value radix word) limit) f.0 in
    let digits = and_parts _ (list_all (λ digit. is_digit digit radix) word) inner.0 in
    let sized = and_parts (nat_lt 0 (length word)) (nat_le (length word) 8) digits.0 in
    let few = leb-true (length word) 8 sized.1 in
    rw (sized.0, le-leb (length word) 10 (omega arith), digits.1, inner.1) (ap (λ (n : ℕ). Some n) (sym f.1))

pub short_decimal : (line rest : List ℕ) (number : ℕ) → IsShortNumber 10 line number rest → IsFirstRead decimal_of line (Some number) rest
short_decimal line rest number r = record { word = r.word; begins = r.begins; says = longer 10 (2 ^ 32) number r.word r.says }

-- what the first word says as a value, and what the words after it say
pub read_on : (line rest : List ℕ) (said : Option ℕ) → IsFirstRead hex_of line said rest → map hex_of (words_of line) ≡ said ∷ map hex_of (words_of rest)
read_on line rest said r = rw (r.begins, r.says) refl
