-- Hexadecimal digits written from the last one on.
use Rattle.std.proofs.Common.{◌≡◌, ℕ, zero, suc, ◌+◌, ◌-◌, ◌*◌, ◌/◌, ◌%◌, ◌^◌, ◌<◌, ◌≤◌, Bool, true, false, ◌&&◌, T, eqb, List, [], ◌∷◌, length, get_or, drop, set, inl, inr, refl, sym, ap, ◌∙◌, arith, eq-zero-or-pos, eqb→eq}
use Rattle.std.specs.Fmt.{digits, digits_onto, digit_glyph}
use native.Mathlib.Numerals.{unary_clauses}
use Rattle.std.proofs.lemmas.Bool.{ne_eqb}
use Rattle.std.proofs.lemmas.List.{drop-set}
use lib.Ieee.Fits.{and_l, and_r}
use Rattle.script_generator.specs.declared.digits.TheConstants.{DIGITS}

-- the table has the digit of each number below this one
abbrev are_glyphs : ℕ → Bool
are_glyphs zero = true
are_glyphs (suc d) = eqb (get_or DIGITS d 0) (digit_glyph false d) && are_glyphs d

below : (n d : ℕ) → T (are_glyphs n) → d < n → get_or DIGITS d 0 ≡ digit_glyph false d
below zero d t lt = absurd (omega arith)
below (suc n) d t lt =
    elim (eq-zero-or-pos (n - d)) [
      | inl z ↦ let e : d ≡ n = omega arith in rw e (eqb→eq _ _ (and_l _ (are_glyphs n) t))
      | inr g ↦ below n d (and_r _ (are_glyphs n) t) (omega arith)
    ]

pub glyph_at : (d : ℕ) → d < 16 → get_or DIGITS d 0 ≡ digit_glyph false d
glyph_at d lt = below 16 d tt lt

step : (k n : ℕ) (acc : List ℕ) → 16 ≤ n → digits_onto (suc k) 16 false n acc ≡ digits_onto k 16 false (n / 16) (digit_glyph false (n % 16) ∷ acc)
step k n acc large = rw (ne_eqb (n / 16) 0 (omega arith)) refl

last : (k n : ℕ) (acc : List ℕ) → n < 16 → digits_onto (suc k) 16 false n acc ≡ digit_glyph false (n % 16) ∷ acc
last k n acc small = let none : n / 16 ≡ 0 = omega arith in rw none refl

pub hex_begins : (value : ℕ) (acc : List ℕ) → acc ≡ [] → digits_onto 64 16 false value acc ≡ digits 16 false value
unfolding digits
hex_begins value acc none = rw none refl

module _ (value left at : ℕ) (text new : List ℕ) (long : at < length text) (so_far : digits_onto (57 + at) 16 false left (drop (at + 1) text) ≡ digits 16 false value) where
  fuel : (acc : List ℕ) → digits_onto (57 + at) 16 false left acc ≡ digits_onto (suc (56 + at)) 16 false left acc
  fuel acc = ap (λ k. digits_onto k 16 false left acc) {x = 57 + at} {y = suc (56 + at)} (omega arith)

  pub hex_goes : (next : ℕ) → 16 ≤ left → at ≡ next + 1 → new ≡ set text at (digit_glyph false (left % 16)) → digits_onto (57 + next) 16 false (left / 16) (drop (next + 1) new) ≡ digits 16 false value
  hex_goes next large is written =
      let one = fuel (drop (at + 1) text) ∙ step (56 + at) left (drop (at + 1) text) large in
      let less : 57 + next ≡ 56 + at = omega arith in
      let cut : drop (next + 1) new ≡ digit_glyph false (left % 16) ∷ drop (at + 1) text = ap (λ k. drop k new) (sym is) ∙ ap (drop at) written ∙ drop-set text at (digit_glyph false (left % 16)) long in
      ap (λ k. digits_onto k 16 false (left / 16) (drop (next + 1) new)) less ∙ ap (digits_onto (56 + at) 16 false (left / 16)) cut ∙ sym one ∙ so_far

  pub hex_ends : left < 16 → new ≡ set text at (digit_glyph false left) → drop at new ≡ digits 16 false value
  hex_ends small written =
      let one = fuel (drop (at + 1) text) ∙ last (56 + at) left (drop (at + 1) text) small in
      let same : left ≡ left % 16 = omega arith in
      ap (drop at) written ∙ drop-set text at (digit_glyph false left) long ∙ ap (λ d. digit_glyph false d ∷ drop (at + 1) text) same ∙ sym one ∙ so_far

power_one : (n : ℕ) → 16 ^ (n + 1) ≡ 16 ^ n * 16
power_one n = simp unary_clauses

-- a value with one digit less
pub fewer_digits : (left at next : ℕ) → at ≡ next + 1 → left < 16 ^ (at + 1) → left / 16 < 16 ^ (next + 1)
fewer_digits left at next is small =
    let power : 16 ^ (at + 1) ≡ 16 ^ at * 16 = power_one at in
    let same : 16 ^ at ≡ 16 ^ (next + 1) = ap (λ n. 16 ^ n) is in
    omega arith

-- two digits or more need a place before the last one
pub place_before : (left at : ℕ) → 16 ≤ left → left < 16 ^ (at + 1) → 1 ≤ at
place_before left zero large small = absurd (omega arith)
place_before left (suc at) large small = omega arith

-- a value below 16 has one digit
pub one_digit : (value : ℕ) → value < 16 → digit_glyph false value ∷ [] ≡ digits 16 false value
unfolding digits
one_digit value small = ap (λ d. digit_glyph false d ∷ []) {x = value} {y = value % 16} (omega arith) ∙ sym (last 63 value [] small)
