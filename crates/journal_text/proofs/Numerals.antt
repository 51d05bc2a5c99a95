-- Which number a text of digits is, and where it ends.
use Rattle.std.proofs.Common.{◌≡◌, ℕ, zero, suc, ◌+◌, ◌*◌, ◌/◌, ◌%◌, ◌^◌, ◌<◌, ◌≤◌, Bool, true, false, List, [], ◌∷◌, ◌++◌, length, length-append, drop, take, inl, inr, refl, sym, ap, ◌∙◌, arith}
use Rattle.std.specs.Prelude.{nat_lt, ◌||◌}
use Rattle.std.specs.Char.{digit_char, digit_value}
use Rattle.std.specs.Fmt.{decimal}
use Rattle.std.specs.Str.Parse.{digits_value}
use Rattle.std.proofs.Math.Nat.{pow-suc}
use Rattle.std.proofs.lemmas.List.{append-nil}
use Rattle.std.proofs.lemmas.Bool.{cases_lt, lt-ltb, le-ltb}
use Rattle.std.proofs.lemmas.Str.{digit_value-digit_char}
use Rattle.std.proofs.lemmas.Int.Digits.{digits_value_push}
use Rattle.std.proofs.lemmas.Fmt.{decimal_from_appends, length-decimal-le_succ}
use Rattle.journal_text.specs.Digits.{digits_within, numeral, hex_digits, hex8, number_text}

last_one : (count n : ℕ) → n < 10 → digits_within (suc count) n ≡ (48 + n) ∷ []
last_one count n small = rw (lt-ltb n 10 small, digits_within) refl

last_more : (count n : ℕ) → 10 ≤ n → digits_within (suc count) n ≡ digits_within count (n / 10) ++ (48 + n % 10) ∷ []
last_more count n large = rw (le-ltb n 10 large, digits_within) refl

-- up to 64 bits these are the digits that std writes
pub numeral_decimal : (n : ℕ) → n < 2 ^ 64 → numeral n ≡ decimal n
unfolding numeral
numeral_decimal n small =
    decimal_from_appends digits_within (record { one = last_one; more = last_more }) (suc n) n small (omega (arith, length-decimal-le_succ n small))

-- a number of one, two or three digits, digit by digit
pub numeral_of_one : (n : ℕ) → n < 10 → numeral n ≡ (48 + n) ∷ []
unfolding numeral
numeral_of_one n small = last_one n n small

pub numeral_of_two : (n : ℕ) → 10 ≤ n → n < 100 → numeral n ≡ (48 + n / 10) ∷ (48 + n % 10) ∷ []
unfolding numeral
numeral_of_two zero more less = absurd (omega (arith, more))
numeral_of_two (suc m) more less =
    let n = suc m in
    last_more n n more ∙ ap (λ (ds : List ℕ). ds ++ (48 + n % 10) ∷ []) (last_one m (n / 10) (omega (arith, less)))

pub numeral_of_three : (n : ℕ) → 100 ≤ n → n < 1000 → numeral n ≡ (48 + n / 10 / 10) ∷ (48 + n / 10 % 10) ∷ (48 + n % 10) ∷ []
unfolding numeral
numeral_of_three zero more less = absurd (omega (arith, more))
numeral_of_three (suc zero) more less = absurd (omega (arith, more))
numeral_of_three (suc (suc m)) more less =
    let n = suc (suc m) in
    last_more n n (omega (arith, more))
    ∙ ap (λ (ds : List ℕ). ds ++ (48 + n % 10) ∷ []) (last_more (suc m) (n / 10) (omega (arith, more)) ∙ ap (λ (ds : List ℕ). ds ++ (48 + n / 10 % 10) ∷ []) (last_one m (n / 10 / 10) (omega (arith, less))))

code_value : (d : ℕ) → d < 10 → digit_value (48 + d) ≡ d
code_value d small =
    let code : digit_char d ≡ 48 + d = rw (lt-ltb d 10 small) refl in
    ap digit_value (sym code) ∙ digit_value-digit_char d (omega arith)

digits_within_value : (count n : ℕ) → n < count → digits_value 10 (digits_within count n) ≡ n
digits_within_value zero n lt = absurd (omega arith)
digits_within_value (suc count) n lt =
    elim (cases_lt n 10) [
      | inl small ↦ ap (digits_value 10) (last_one count n small) ∙ omega (arith, code_value n small)
      | inr large ↦
          ap (digits_value 10) (last_more count n large)
          ∙ digits_value_push 10 (digits_within count (n / 10)) (48 + n % 10)
          ∙ rw (digits_within_value count (n / 10) (omega arith), code_value (n % 10) (omega arith)) (omega arith)
    ]

-- digits alone
abbrev pub AreDigits : List ℕ → Type 0
AreDigits [] = Unit {0}
AreDigits (d ∷ ds) = (48 ≤ d) × (d ≤ 57) × AreDigits ds

one_more : (ds : List ℕ) (d : ℕ) → AreDigits ds → 48 ≤ d → d ≤ 57 → AreDigits (ds ++ d ∷ [])
one_more [] d are low high = (low, high, tt)
one_more (c ∷ ds) d are low high = (are.0, are.1, one_more ds d are.2 low high)

digits_within_digits : (count n : ℕ) → AreDigits (digits_within count n)
digits_within_digits zero n = tt
digits_within_digits (suc count) n =
    elim (cases_lt n 10) [
      | inl small ↦ rw (last_one count n small) (omega arith, omega arith, tt)
      | inr large ↦ rw (last_more count n large) (one_more (digits_within count (n / 10)) (48 + n % 10) (digits_within_digits count (n / 10)) (omega arith) (omega arith))
    ]

digits_within_some : (count n : ℕ) → 0 < length (digits_within (suc count) n)
digits_within_some count n =
    elim (cases_lt n 10) [
      | inl small ↦ rw (last_one count n small) (omega arith)
      | inr large ↦ rw (last_more count n large) (omega (arith, length-append (digits_within count (n / 10)) ((48 + n % 10) ∷ [])))
    ]

-- the text does not begin with a digit
abbrev pub ends : List ℕ → Bool
ends [] = true
ends (b ∷ rest) = nat_lt b 48 || nat_lt 57 b

goes_on : (d : ℕ) (rest : List ℕ) → 48 ≤ d → d ≤ 57 → ends (d ∷ rest) ≡ false
goes_on d rest low high = rw (le-ltb d 48 low, le-ltb 57 d high) refl

-- where digits end, they can be told from what stands after them
cut : (a b x y : List ℕ) → AreDigits a → AreDigits b → ends x ≡ true → ends y ≡ true → a ++ x ≡ b ++ y → (a ≡ b) × (x ≡ y)
cut [] [] x y da db ex ey e = (refl, e)
cut [] (d ∷ b) x y da db ex ey e =
    let more : ends (d ∷ b ++ y) ≡ false = goes_on d (b ++ y) db.0 db.1 in
    let end : ends (d ∷ b ++ y) ≡ true = ap ends (sym e) ∙ ex in
    absurd cc
cut (d ∷ a) [] x y da db ex ey e =
    let more : ends (d ∷ a ++ x) ≡ false = goes_on d (a ++ x) da.0 da.1 in
    let end : ends (d ∷ a ++ x) ≡ true = ap ends e ∙ ey in
    absurd cc
cut (d ∷ a) (c ∷ b) x y da db ex ey e =
    let first : d ≡ c = cc in
    let tails : a ++ x ≡ b ++ y = cc in
    let rest = cut a b x y da.2 db.2 ex ey tails in
    let same : a ≡ b = rest.0 in
    (cc, rest.1)

pub numeral_cut : (m n : ℕ) (x y : List ℕ) → ends x ≡ true → ends y ≡ true → numeral m ++ x ≡ numeral n ++ y → (m ≡ n) × (x ≡ y)
unfolding numeral
numeral_cut m n x y ex ey e =
    let parts = cut (numeral m) (numeral n) x y (digits_within_digits (suc m) m) (digits_within_digits (suc n) n) ex ey e in
    (sym (digits_within_value (suc m) m (omega arith)) ∙ ap (digits_value 10) parts.0 ∙ digits_within_value (suc n) n (omega arith), parts.1)

first_digit : (ds x y : List ℕ) (b : ℕ) → AreDigits ds → 0 < length ds → ds ++ x ≡ b ∷ y → (48 ≤ b) × (b ≤ 57)
first_digit [] x y b are some e = absurd (omega arith)
first_digit (d ∷ ds) x y b are some e =
    let same : d ≡ b = cc in
    (omega (arith, are.0), omega (arith, are.1))

-- a number begins with a digit
pub numeral_first : (n b : ℕ) (x y : List ℕ) → numeral n ++ x ≡ b ∷ y → (48 ≤ b) × (b ≤ 57)
unfolding numeral
numeral_first n b x y e = first_digit (numeral n) x y b (digits_within_digits (suc n) n) (digits_within_some n n) e

-- a text without its first byte
abbrev pub behind_first : List ℕ → List ℕ
behind_first [] = []
behind_first (b ∷ rest) = rest

pub number_cut : (m n : ℕ) (x y : List ℕ) → ends x ≡ true → ends y ≡ true → number_text m ++ x ≡ number_text n ++ y → (m ≡ n) × (x ≡ y)
number_cut m n x y ex ey e = numeral_cut m n x y ex ey (ap behind_first e)

hex_digits_value : (count n : ℕ) → n < 16 ^ count → digits_value 16 (hex_digits count n) ≡ n
hex_digits_value zero n small = omega arith
hex_digits_value (suc count) n small =
    let whole : n < 16 ^ count * 16 = rw (pow-suc 16 count) at small in
    digits_value_push 16 (hex_digits count (n / 16)) (digit_char (n % 16))
    ∙ rw (hex_digits_value count (n / 16) (omega arith), digit_value-digit_char (n % 16) (omega arith)) (omega arith)

pub hex_cut : (v w : ℕ) (x y : List ℕ) → v < 2 ^ 32 → w < 2 ^ 32 → hex8 v ++ x ≡ hex8 w ++ y → (v ≡ w) × (x ≡ y)
unfolding hex8
hex_cut v w x y small_v small_w e =
    let same : hex8 v ≡ hex8 w = ap (take 8) e in
    (sym (hex_digits_value 8 v small_v) ∙ ap (digits_value 16) same ∙ hex_digits_value 8 w small_w, ap (drop 8) e)

pub different_numbers : (m n : ℕ) → number_text m ≡ number_text n → m ≡ n
different_numbers m n e = (number_cut m n [] [] refl refl (append-nil (number_text m) ∙ e ∙ sym (append-nil (number_text n)))).0

pub different_values : (v w : ℕ) → v < 2 ^ 32 → w < 2 ^ 32 → hex8 v ≡ hex8 w → v ≡ w
different_values v w small_v small_w e = (hex_cut v w [] [] small_v small_w (append-nil (hex8 v) ∙ e ∙ sym (append-nil (hex8 w)))).0
