-- Hexadecimal digits, two at a time.
use Rattle.std.proofs.Common.{◌≡◌, ◌∙◌, sym, ℕ, zero, suc, ◌+◌, ◌-◌, ◌*◌, ◌/◌, ◌%◌, ◌^◌, ◌<◌, Bool, true, ◌&&◌, T, eqb, [], ◌∷◌, get_or, inl, inr, arith, eq-zero-or-pos, eqb→eq}
use Rattle.std.specs.Char.{digit_char}
use Rattle.std.proofs.lemmas.Bool.Decides.{nat_tests}
use lib.Ieee.Fits.{and_l, and_r}
use Rattle.journal_text.specs.declared.digits.TheConstants.{PAIRS}
use Rattle.journal_text.specs.Digits.{hex8}

-- the table has the digits of each byte below this one
abbrev are_pairs : ℕ → Bool
are_pairs zero = true
are_pairs (suc byte) = (eqb (get_or PAIRS (byte * 2) 0) (digit_char (byte / 16)) && eqb (get_or PAIRS (byte * 2 + 1) 0) (digit_char (byte % 16))) && are_pairs byte

below : (n byte : ℕ) → T (are_pairs n) → byte < n → (get_or PAIRS (byte * 2) 0 ≡ digit_char (byte / 16)) × (get_or PAIRS (byte * 2 + 1) 0 ≡ digit_char (byte % 16))
below zero byte t lt = absurd (omega arith)
below (suc n) byte t lt =
    elim (eq-zero-or-pos (n - byte)) [
      | inl z ↦ let e : byte ≡ n = omega arith in let a = and_l _ (are_pairs n) t in rw e (eqb→eq _ _ (and_l _ _ a), eqb→eq _ _ (and_r _ _ a))
      | inr g ↦ below n byte (and_r _ (are_pairs n) t) (omega arith)
    ]

pub pairs_at : (byte : ℕ) → byte < 256 → (get_or PAIRS (byte * 2) 0 ≡ digit_char (byte / 16)) × (get_or PAIRS (byte * 2 + 1) 0 ≡ digit_char (byte % 16))
pairs_at byte lt = below 256 byte tt lt

-- the bytes of a number that is made of eight bytes, two at a time
bytes_of_pairs : (n a b p d e f g h : ℕ) → n ≡ a + 256 * b + 65536 * (p + 256 * d) + 4294967296 * (e + 256 * f + 65536 * (g + 256 * h))
    → a < 256 → b < 256 → p < 256 → d < 256 → e < 256 → f < 256 → g < 256 → h < 256
    → n % 256 ∷ n / 256 % 256 ∷ n / 65536 % 256 ∷ n / 16777216 % 256 ∷ n / 4294967296 % 256 ∷ n / 1099511627776 % 256 ∷ n / 281474976710656 % 256
    ∷ n / 72057594037927936 % 256 ∷ [] ≡ a ∷ b ∷ p ∷ d ∷ e ∷ f ∷ g ∷ h ∷ []
bytes_of_pairs n a b p d e f g h is sa sb sp sd se sf sg sh =
    let a' : n % 256 ≡ a = omega arith in
    let b' : n / 256 % 256 ≡ b = omega arith in
    let p' : n / 65536 % 256 ≡ p = omega arith in
    let d' : n / 16777216 % 256 ≡ d = omega arith in
    let e' : n / 4294967296 % 256 ≡ e = omega arith in
    let f' : n / 1099511627776 % 256 ≡ f = omega arith in
    let g' : n / 281474976710656 % 256 ≡ g = omega arith in
    let h' : n / 72057594037927936 % 256 ≡ h = omega arith in
    cc

digit_small : (d : ℕ) → d < 16 → digit_char d < 256
digit_small d low = grind (arith, nat_tests)

-- the digits of a number are those of its four bytes
pub hex8_by_bytes : (n : ℕ) → n < 2 ^ 32 → hex8 n ≡ digit_char (n / 16777216 / 16) ∷ digit_char (n / 16777216 % 16) ∷ digit_char (n / 65536 % 256 / 16) ∷ digit_char (n / 65536 % 256 % 16)
    ∷ digit_char (n / 256 % 256 / 16) ∷ digit_char (n / 256 % 256 % 16) ∷ digit_char (n % 256 / 16) ∷ digit_char (n % 256 % 16) ∷ []
unfolding hex8
hex8_by_bytes n small =
    let a : n / 16 / 16 / 16 / 16 / 16 / 16 / 16 % 16 ≡ n / 16777216 / 16 = omega arith in
    let b : n / 16 / 16 / 16 / 16 / 16 / 16 % 16 ≡ n / 16777216 % 16 = omega arith in
    let p : n / 16 / 16 / 16 / 16 / 16 % 16 ≡ n / 65536 % 256 / 16 = omega arith in
    let d : n / 16 / 16 / 16 / 16 % 16 ≡ n / 65536 % 256 % 16 = omega arith in
    let e : n / 16 / 16 / 16 % 16 ≡ n / 256 % 256 / 16 = omega arith in
    let f : n / 16 / 16 % 16 ≡ n / 256 % 256 % 16 = omega arith in
    let g : n / 16 % 16 ≡ n % 256 / 16 = omega arith in
    let h : n % 16 ≡ n % 256 % 16 = omega arith in
    cc

-- and so are the bytes of the number that the digits of a number make, two at a time
pub hex8_by_pairs : (n m : ℕ) → n < 2 ^ 32
    → m ≡ digit_char (n / 16777216 / 16) + 256 * digit_char (n / 16777216 % 16)
    + 65536 * (digit_char (n / 65536 % 256 / 16) + 256 * digit_char (n / 65536 % 256 % 16))
    + 4294967296 * (digit_char (n / 256 % 256 / 16) + 256 * digit_char (n / 256 % 256 % 16)
    + 65536 * (digit_char (n % 256 / 16) + 256 * digit_char (n % 256 % 16)))
    → m % 256 ∷ m / 256 % 256 ∷ m / 65536 % 256 ∷ m / 16777216 % 256 ∷ m / 4294967296 % 256 ∷ m / 1099511627776 % 256 ∷ m / 281474976710656 % 256
    ∷ m / 72057594037927936 % 256 ∷ [] ≡ hex8 n
hex8_by_pairs n m small is =
    bytes_of_pairs m _ _ _ _ _ _ _ _ is (digit_small _ (omega arith)) (digit_small _ (omega arith)) (digit_small _ (omega arith))
    (digit_small _ (omega arith)) (digit_small _ (omega arith)) (digit_small _ (omega arith)) (digit_small _ (omega arith))
    (digit_small _ (omega arith)) ∙ sym (hex8_by_bytes n small)
