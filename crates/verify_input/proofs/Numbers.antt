-- Which words are the own digits of a number.
use Rattle.std.proofs.Common.{◌≡◌, ℕ, zero, suc, ◌+◌, ◌*◌, ◌/◌, ◌%◌, ◌^◌, ◌<◌, ◌≤◌, Bool, true, false, cond, ltb, leb, eqb, Option, Some, None, List, [], ◌∷◌, ◌++◌, length, take, get_or, lit<, refl, sym, ap, subst, ◌∙◌, append_assoc, ◌⊎◌, inl, inr, arith, eq-zero-or-pos}
use native.Mathlib.Numerals.{unary_clauses}
use Rattle.std.specs.Prelude.{◌&&◌, slice_index}
use Rattle.std.specs.List.{list_all}
use Rattle.std.specs.Char.{is_digit, digit_value, digit_char}
use Rattle.std.specs.Fmt.{decimal}
use Rattle.std.specs.Str.Parse.{digits_value, digits_value_after, AllDigits}
use Rattle.std.proofs.lemmas.List.{append-nil}
use Rattle.std.proofs.lemmas.Bool.{cases_lt, ltb-true, lt-ltb, leb-true, and_parts, and_from}
use Rattle.std.proofs.lemmas.Bool.Decides.{nat_tests}
use Rattle.std.proofs.lemmas.Str.{digit_value-digit_char}
use Rattle.std.proofs.lemmas.Str.Parse.{IsNumeralModel}
use Rattle.std.proofs.lemmas.Fmt.{decimal_is_IsNumeral, length-decimal-le, first_decimal, decimal_digit, decimal-digits_value}
use Rattle.std.proofs.lemmas.Int.Digits.{digits_value-lt, digits_value_more}
use Rattle.std.proofs.lemmas.List.Folds.{list_all-append, list_all_at, list_all_more}
use Rattle.std.proofs.Math.Nat.{pow-le-pow_right}
use Rattle.script_lines.specs.Numbers.{number_said, decimal_of, hex_of}
use Rattle.script_lines.proofs.Digits.{all_digits}
use Rattle.journal_text.specs.Digits.{numeral, hex_digits, hex8}
use Rattle.journal_text.proofs.Lengths.{length-hex8}
use Rattle.journal_text.proofs.Numerals.{numeral_decimal, different_values}
use Rattle.verify_input.specs.Said.{is_small, small_digit, own_number, own_value}

-- ---- digits

digits_test : (radix : ℕ) (ds : List ℕ) → AllDigits radix ds → list_all (λ c. is_digit c radix) ds ≡ true
digits_test radix [] are = refl
digits_test radix (c ∷ cs) are = and_from _ _ (lt-ltb _ _ are.0) (digits_test radix cs are.1)

own_model : IsNumeralModel (λ ds. list_all (λ c. is_digit c 10) ds ≡ true) (digits_value 10)
own_model = record { to = all_digits 10; from = digits_test 10; same = λ ds are. refl }

-- what a word has that says a number
record IsNumber (radix most limit : ℕ) (word : List ℕ) (n : ℕ) : Type 0 where
  some : 0 < length word
  short : length word ≤ most
  digits : list_all (λ c. is_digit c radix) word ≡ true
  small : digits_value radix word < limit
  is : digits_value radix word ≡ n

number_told : (radix most limit : ℕ) (word : List ℕ) (n : ℕ) → number_said radix most limit word ≡ Some n → IsNumber radix most limit word n
unfolding number_said
number_told radix most limit word n e = by (ltb 0 (length word)) (leb (length word) most) (list_all (λ c. is_digit c radix) word) (ltb (digits_value radix word) limit) refl refl refl refl e
  where
    by : (a b c d : Bool) → ltb 0 (length word) ≡ a → leb (length word) most ≡ b → list_all (λ c. is_digit c radix) word ≡ c → ltb (digits_value radix word) limit ≡ d → cond (((a && b) && c) && d) (Some (digits_value radix word)) None ≡ Some n → IsNumber radix most limit word n
    by true true true true ea eb ec ed e = record { some = ltb-true _ _ ea; short = leb-true _ _ eb; digits = ec; small = ltb-true _ _ ed; is = cc }
    by false b c d ea eb ec ed e = absurd (cc)
    by true false c d ea eb ec ed e = absurd (cc)
    by true true false d ea eb ec ed e = absurd (cc)
    by true true true false ea eb ec ed e = absurd (cc)

number_there : (radix most limit : ℕ) (word : List ℕ) (n : ℕ) → IsNumber radix most limit word n → number_said radix most limit word ≡ Some n
unfolding number_said
number_there radix most limit word n is =
    let a : ltb 0 (length word) ≡ true = lt-ltb _ _ is.some in
    let b : leb (length word) most ≡ true = let s = is.short in grind (arith, nat_tests) in
    let d : ltb (digits_value radix word) limit ≡ true = lt-ltb _ _ is.small in
    rw (a, b, is.digits, d) (ap Some is.is)

-- ---- decimal numbers

-- a zero stands before other digits
abbrev leads : List ℕ → Bool
leads word = ltb 1 (length word) && eqb (slice_index word 0) 48

pub number_told_own : (word : List ℕ) (n : ℕ) → own_number word ≡ Some n → (word ≡ numeral n) × (n < 2 ^ 32)
unfolding own_number
number_told_own word n e = by (leads word) refl e
  where
    by : (b : Bool) → leads word ≡ b → cond b None (decimal_of word) ≡ Some n → (word ≡ numeral n) × (n < 2 ^ 32)
    by true lead e = absurd (cc)
    by false lead e =
        let is = number_told 10 10 (2 ^ 32) word n e in
        let small : n < 2 ^ 32 = subst (λ m. m < 2 ^ 32) is.is is.small in
        let one : get_or word 0 0 ≡ 48 → length word ≡ 1 = λ z. alone z in
        let digits : decimal (digits_value 10 word) ≡ word = decimal-digits_value own_model word is.digits is.some one (let s = is.small in omega arith) in
        (sym (numeral_decimal n (omega arith) ∙ ap decimal (sym is.is) ∙ digits), small)
      where
        alone : get_or word 0 0 ≡ 48 → length word ≡ 1
        alone z = let is = number_told 10 10 (2 ^ 32) word n e in let s = is.some in grind (arith, nat_tests)

pub own_number_there : (n : ℕ) → n < 2 ^ 32 → own_number (numeral n) ≡ Some n
unfolding own_number
own_number_there n small = rw (numeral_decimal n (omega arith)) (rw (no_lead) (number_there 10 10 (2 ^ 32) (decimal n) n is))
  where
    told : (0 < length (decimal n)) × AllDigits 10 (decimal n)
    told = (decimal_is_IsNumeral n (omega arith)).0

    is : IsNumber 10 10 (2 ^ 32) (decimal n) n
    is =
        let value = (decimal_is_IsNumeral n (omega arith)).1 in
        record {
          some = told.0;
          short = length-decimal-le 10 n (omega arith) (omega arith) (omega arith);
          digits = digits_test 10 (decimal n) told.1;
          small = subst (λ m. m < 2 ^ 32) (sym value) small;
          is = value;
        }

    no_lead : leads (decimal n) ≡ false
    no_lead =
        elim (eq-zero-or-pos n) [
          | inl z ↦ rw (z, decimal_digit 0 (omega arith)) refl
          | inr pos ↦ let first = first_decimal n pos (omega arith) in grind (arith, nat_tests)
        ]

-- ---- one digit or two

not_digits : (word : List ℕ) → list_all (λ c. is_digit c 10) word ≡ false → decimal_of word ≡ None
not_digits word other = by (decimal_of word) refl
  where
    by : (o : Option ℕ) → decimal_of word ≡ o → decimal_of word ≡ None
    by None e = e
    by (Some n) e = let all = (number_told 10 10 (2 ^ 32) word n e).digits in absurd (cc)

pub digit_said : (c : ℕ) → decimal_of (c ∷ []) ≡ cond (is_digit c 10) (Some (digit_value c)) None
digit_said c = by (is_digit c 10) refl
  where
    by : (b : Bool) → is_digit c 10 ≡ b → decimal_of (c ∷ []) ≡ cond b (Some (digit_value c)) None
    by true test =
        let low : digit_value c < 10 = ltb-true _ _ test in
        number_there 10 10 (2 ^ 32) (c ∷ []) (digit_value c) (record { some = omega arith; short = omega arith; digits = and_from _ _ test refl; small = omega arith; is = omega arith })
    by false other = not_digits (c ∷ []) (ap (λ b. b && true) other)

pub digit_few : (c n : ℕ) → decimal_of (c ∷ []) ≡ Some n → n < 10
digit_few c n e =
    let is = number_told 10 10 (2 ^ 32) (c ∷ []) n e in
    let low : digit_value c < 10 = ltb-true _ _ (and_parts _ _ is.digits).0 in
    let same : 0 * 10 + digit_value c ≡ n = is.is in
    omega arith

-- what two digits say, the first of which is no zero
abbrev pub of_two : Option ℕ → Option ℕ → Option ℕ
of_two None one = None
of_two (Some ten) None = None
of_two (Some ten) (Some one) = cond (eqb ten 0) None (Some (10 * ten + one))

both_said : (a b : ℕ) → own_number (a ∷ b ∷ []) ≡ of_two (decimal_of (a ∷ [])) (decimal_of (b ∷ []))
unfolding own_number
both_said a b = (by (is_digit a 10) (is_digit b 10) (eqb a 48) refl refl refl) ∙ (λ i. of_two (sym (digit_said a) i) (sym (digit_said b) i))
  where
    by : (x y zero : Bool) → is_digit a 10 ≡ x → is_digit b 10 ≡ y → eqb a 48 ≡ zero → cond zero None (decimal_of (a ∷ b ∷ [])) ≡ of_two (cond x (Some (digit_value a)) None) (cond y (Some (digit_value b)) None)
    by true true true ea eb ez =
        let none : digit_value a ≡ 0 = grind (arith, nat_tests) in
        rw (none) refl
    by true true false ea eb ez =
        let ten : digit_value a < 10 = ltb-true _ _ ea in
        let one : digit_value b < 10 = ltb-true _ _ eb in
        let some : eqb (digit_value a) 0 ≡ false = grind (arith, nat_tests) in
        number_there 10 10 (2 ^ 32) (a ∷ b ∷ []) (10 * digit_value a + digit_value b) (record { some = omega arith; short = omega arith; digits = and_from _ _ ea (and_from _ _ eb refl); small = omega arith; is = omega arith })
        ∙ rw (some) refl
    by true false true ea eb ez = refl
    by true false false ea eb ez = not_digits (a ∷ b ∷ []) (rw (ea, eb) refl)
    by false y true ea eb ez = refl
    by false y false ea eb ez = not_digits (a ∷ b ∷ []) (ap (λ t. t && (is_digit b 10 && true)) ea)

pub two_said : (word : List ℕ) → length word ≡ 2 → own_number word ≡ of_two (decimal_of (get_or word 0 0 ∷ [])) (decimal_of (get_or word 1 0 ∷ []))
two_said [] two = absurd (omega arith)
two_said (x ∷ []) two = absurd (omega arith)
two_said (x ∷ y ∷ []) two = both_said x y
two_said (x ∷ y ∷ z ∷ more) two = absurd (omega arith)

-- ---- hexadecimal values

digit_again : (c : ℕ) → digit_value c < 16 → is_small c ≡ true → digit_char (digit_value c) ≡ c
digit_again c low small = grind (arith, nat_tests)

-- the digits of a number with further digits
digits_more : (k n : ℕ) (ds : List ℕ) → AllDigits 16 ds → list_all is_small ds ≡ true → hex_digits (length ds + k) (digits_value_after 16 n ds) ≡ hex_digits k n ++ ds
digits_more k n [] are small = let none : 0 + k ≡ k = omega arith in ap (λ m. hex_digits m n) none ∙ sym (append-nil (hex_digits k n))
digits_more k n (c ∷ cs) are small =
    let both = and_parts (is_small c) (list_all is_small cs) small in
    let value = digit_value c in
    let low : value < 16 = are.0 in
    let count : suc (length cs) + k ≡ length cs + suc k = omega arith in
    let front : (n * 16 + value) / 16 ≡ n = omega arith in
    let last : (n * 16 + value) % 16 ≡ value = omega arith in
    ap (λ m. hex_digits m (digits_value_after 16 (n * 16 + value) cs)) count
    ∙ digits_more (suc k) (n * 16 + value) cs are.1 both.1
    ∙ rw (front, last, digit_again c low both.0) (append_assoc (hex_digits k n) (c ∷ []) cs)

-- what a word has that says a value
record IsValue (word : List ℕ) (v : ℕ) : Type 0 where
  pub small : list_all is_small word ≡ true
  pub number : IsNumber 16 8 (2 ^ 32) word v

value_told : (word : List ℕ) (v : ℕ) → own_value word ≡ Some v → IsValue word v
unfolding own_value
value_told word v e = by (list_all is_small word) refl e
  where
    by : (b : Bool) → list_all is_small word ≡ b → cond b (hex_of word) None ≡ Some v → IsValue word v
    by false small e = absurd (cc)
    by true small e = record { small = small; number = number_told 16 8 (2 ^ 32) word v e }

pub value_told_own : (word : List ℕ) (v : ℕ) → length word ≡ 8 → own_value word ≡ Some v → (word ≡ hex8 v) × (v < 2 ^ 32)
unfolding hex8
value_told_own word v eight e =
    let told = value_told word v e in
    let is = told.number in
    let more = digits_more 0 0 word (all_digits 16 word is.digits) told.small in
    let count : length word + 0 ≡ 8 = omega arith in
    (sym (ap (hex_digits 8) (sym is.is) ∙ ap (λ n. hex_digits n (digits_value 16 word)) (sym count) ∙ more), subst (λ m. m < 2 ^ 32) is.is is.small)

no_value : (word : List ℕ) → ((v : ℕ) → IsValue word v → ⊥) → own_value word ≡ None
no_value word not = by (own_value word) refl
  where
    by : (o : Option ℕ) → own_value word ≡ o → own_value word ≡ None
    by None e = e
    by (Some v) e = absurd (not v (value_told word v e))

pub no_value_empty : (word : List ℕ) → length word ≡ 0 → own_value word ≡ None
no_value_empty word none = no_value word (λ v is. let some = is.number.some in omega arith)

pub no_value_long : (word : List ℕ) → 8 < length word → own_value word ≡ None
no_value_long word long = no_value word (λ v is. let short = is.number.short in omega arith)

-- a byte that is no digit with a small letter
pub no_value_other : (word : List ℕ) (i : ℕ) → i < length word → 16 ≤ small_digit (get_or word i 0) → own_value word ≡ None
no_value_other word i lt high = no_value word (λ v is. by v is (is_small (get_or word i 0)) (is_digit (get_or word i 0) 16) refl refl high)
  where
    by : (v : ℕ) → IsValue word v → (a b : Bool) → is_small (get_or word i 0) ≡ a → is_digit (get_or word i 0) 16 ≡ b → 16 ≤ cond (a && b) (digit_value (get_or word i 0)) 16 → ⊥
    by v is false b ea eb high = let other = list_all_at is_small word i 0 lt ea in let all = is.small in cc
    by v is true false ea eb high = let other = list_all_at (λ c. is_digit c 16) word i 0 lt eb in let all = is.number.digits in cc
    by v is true true ea eb high = let less : digit_value (get_or word i 0) < 16 = ltb-true _ _ eb in omega arith

-- the digits so far, and their value
pub record IsValueOf (word : List ℕ) (value : ℕ) : Type 0 where
  pub small : list_all is_small word ≡ true
  pub digits : list_all (λ c. is_digit c 16) word ≡ true
  pub is : value ≡ digits_value 16 word

pub no_digits : IsValueOf [] 0
no_digits = record { small = refl; digits = refl; is = refl }

pub value_more : (word : List ℕ) (value i digit : ℕ) → i < length word → digit ≡ small_digit (get_or word i 0) → digit < 16 → IsValueOf (take i word) value → IsValueOf (take (i + 1) word) (value * 16 + digit)
value_more word value i digit lt e less is = by (is_small (get_or word i 0)) (is_digit (get_or word i 0) 16) refl refl e
  where
    by : (a b : Bool) → is_small (get_or word i 0) ≡ a → is_digit (get_or word i 0) 16 ≡ b → digit ≡ cond (a && b) (digit_value (get_or word i 0)) 16 → IsValueOf (take (i + 1) word) (value * 16 + digit)
    by false b ea eb e = absurd (omega arith)
    by true false ea eb e = absurd (omega arith)
    by true true ea eb e = record {
      small = list_all_more is_small word i 0 lt ∙ and_from _ _ is.small ea;
      digits = list_all_more (λ c. is_digit c 16) word i 0 lt ∙ and_from _ _ is.digits eb;
      is = rw (is.is, e) (sym (digits_value_more 16 word i lt));
    }

pub value_whole : (word : List ℕ) (value : ℕ) → 0 < length word → length word ≤ 8 → value < 2 ^ 32 → IsValueOf word value → Some value ≡ own_value word
unfolding own_value
value_whole word value some short low is =
    let number : IsNumber 16 8 (2 ^ 32) word value = record { some = some; short = short; digits = is.digits; small = subst (λ n. n < 2 ^ 32) is.is low; is = sym is.is } in
    rw (is.small) (sym (number_there 16 8 (2 ^ 32) word value number))

-- the digits so far and their value; or a worth that no value has, where one is no digit
abbrev pub IsWorth : List ℕ → List ℕ → ℕ → Type 0
IsWorth word front worth = IsValueOf front worth ⊎ ((own_value word ≡ None) × (2 ^ 32 ≤ worth))

pub worth_more : (word : List ℕ) (worth i more : ℕ) → i < length word
    → (small_digit (get_or word i 0) < 16 → more ≡ small_digit (get_or word i 0))
    → (16 ≤ small_digit (get_or word i 0) → more ≡ 2 ^ 32)
    → IsWorth word (take i word) worth → IsWorth word (take (i + 1) word) (worth * 16 + more)
worth_more word worth i more lt digit none (inr other) = inr (other.0, (let far = other.1 in omega arith))
worth_more word worth i more lt digit none (inl is) = elim (cases_lt (small_digit (get_or word i 0)) 16) [
  | inl small ↦ (let e = digit small in inl (value_more word worth i more lt e (subst (λ d. d < 16) (sym e) small) is))
  | inr high ↦ (let e = none high in inr (no_value_other word i lt high, omega arith))
]

-- eight digits at most have a value of 32 bits
value_low : (word : List ℕ) (value : ℕ) → length word ≤ 8 → IsValueOf word value → value < 2 ^ 32
value_low word value short is =
    let below = digits_value-lt 16 word (all_digits 16 word is.digits) in
    let far : 16 ^ length word ≤ 16 ^ 8 = pow-le-pow_right (lit< tt) short in
    let same = is.is in
    omega arith

pub worth_told : (word : List ℕ) (worth : ℕ) → 0 < length word → length word ≤ 8 → IsWorth word word worth → worth < 2 ^ 32 → Some worth ≡ own_value word
worth_told word worth some short (inl is) low = value_whole word worth some short low is
worth_told word worth some short (inr other) low = absurd (let far = other.1 in omega arith)

pub worth_over : (word : List ℕ) (worth : ℕ) → length word ≤ 8 → IsWorth word word worth → 2 ^ 32 ≤ worth → None ≡ own_value word
worth_over word worth short (inl is) high = absurd (let low = value_low word worth short is in omega arith)
worth_over word worth short (inr other) high = sym other.0

power_one : (n : ℕ) → 16 ^ (n + 1) ≡ 16 ^ n * 16
power_one n = simp unary_clauses

-- at most seven bytes leave room for one more
pub worth_room : (worth i : ℕ) → i ≤ 7 → worth + 2 ^ 32 ≤ 2 ^ 32 * 16 ^ i → worth + 2 ^ 32 ≤ 2 ^ 60
worth_room worth i short most =
    let far : 16 ^ i ≤ 16 ^ 7 = pow-le-pow_right (lit< tt) short in
    omega arith

pub worth_most : (worth i more : ℕ) → more ≤ 2 ^ 32 → worth + 2 ^ 32 ≤ 2 ^ 32 * 16 ^ i → worth * 16 + more + 2 ^ 32 ≤ 2 ^ 32 * 16 ^ (i + 1)
worth_most worth i more few most =
    let power = power_one i in
    omega arith

-- what digits are written
record AreHex (ds : List ℕ) : Type 0 where
  digits : list_all (λ c. is_digit c 16) ds ≡ true
  small : list_all is_small ds ≡ true

digit_hex : (d : ℕ) → d < 16 → AreHex (digit_char d ∷ [])
digit_hex d low = record { digits = grind (arith, nat_tests, digit_value-digit_char d); small = grind (arith, nat_tests) }

digits_hex : (count n : ℕ) → AreHex (hex_digits count n)
digits_hex zero n = record { digits = refl; small = refl }
digits_hex (suc count) n =
    let front = digits_hex count (n / 16) in
    let last = digit_hex (n % 16) (omega arith) in
    record {
      digits = list_all-append (λ c. is_digit c 16) (hex_digits count (n / 16)) (digit_char (n % 16) ∷ []) ∙ and_from _ _ front.digits last.digits;
      small = list_all-append is_small (hex_digits count (n / 16)) (digit_char (n % 16) ∷ []) ∙ and_from _ _ front.small last.small;
    }

value_hex : (v : ℕ) → AreHex (hex8 v)
unfolding hex8
value_hex v = digits_hex 8 v

value_again : (v : ℕ) → hex8 (digits_value 16 (hex8 v)) ≡ hex8 v
unfolding hex8
value_again v = let are = digits_hex 8 v in digits_more 0 0 (hex_digits 8 v) (all_digits 16 (hex_digits 8 v) are.digits) are.small

pub own_value_there : (v : ℕ) → v < 2 ^ 32 → own_value (hex8 v) ≡ Some v
unfolding own_value
own_value_there v small =
    let are = value_hex v in
    let eight = length-hex8 v in
    let less = digits_value-lt 16 (hex8 v) (all_digits 16 (hex8 v) are.digits) in
    let most : 16 ^ length (hex8 v) ≡ 2 ^ 32 = ap (λ n. 16 ^ n) eight in
    let low : digits_value 16 (hex8 v) < 2 ^ 32 = omega arith in
    let is : IsNumber 16 8 (2 ^ 32) (hex8 v) v = record { some = omega arith; short = omega arith; digits = are.digits; small = low; is = different_values (digits_value 16 (hex8 v)) v low small (value_again v) } in
    rw (are.small) (number_there 16 8 (2 ^ 32) (hex8 v) v is)

pub value_digits : (v : ℕ) → AllDigits 16 (hex8 v)
value_digits v = all_digits 16 (hex8 v) (value_hex v).digits
