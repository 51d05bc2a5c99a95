-- The table of digits has the value of each byte.
use Rattle.std.proofs.Common.{◌≡◌, ℕ, zero, suc, ◌+◌, ◌<◌, List, [], ◌∷◌, get_or, refl, ap, ◌∙◌, arith}
use Rattle.std.specs.Char.{digit_value}
use Rattle.script_lines.specs.declared.digit.TheConstants.{VALUES}

-- ---- of any kind of digit

module _ (digit : ℕ → ℕ) where
  -- the values of a given number of bytes from one on
  unfoldable pub values : ℕ → ℕ → List ℕ
  values first zero = []
  values first (suc n) = digit first ∷ values (first + 1) n

  value_among : (n first i other : ℕ) → i < n → get_or (values first n) i other ≡ digit (first + i)
  unfolding values
  value_among zero first i other lt = absurd (omega arith)
  value_among (suc n) first zero other lt =
      let same : first ≡ first + 0 = omega arith in
      ap digit same
  value_among (suc n) first (suc i) other lt =
      let more : (first + 1) + i ≡ first + suc i = omega arith in
      value_among n (first + 1) i other (omega arith) ∙ ap digit more

  -- a table of the values of all bytes has the value of each
  pub value_in : (table : List ℕ) → table ≡ values 0 256 → (i other : ℕ) → i < 256 → get_or table i other ≡ digit i
  value_in table is i other lt =
      let same : 0 + i ≡ i = omega arith in
      ap (λ (bytes : List ℕ). get_or bytes i other) is ∙ value_among 256 0 i other lt ∙ ap digit same

-- ---- of script words

table : VALUES ≡ values digit_value 0 256
unfolding values
table = refl

pub value_there : (i other : ℕ) → i < 256 → get_or VALUES i other ≡ digit_value i
value_there i other lt = value_in digit_value VALUES table i other lt
