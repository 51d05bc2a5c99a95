-- The table of worths has the worth of each byte.
use Rattle.std.proofs.Common.{◌≡◌, ℕ, ◌<◌, ◌≤◌, ◌^◌, get_or, refl, arith}
use Rattle.std.specs.Prelude.{nat_lt, if◌then◌else◌}
use Rattle.std.proofs.lemmas.Bool.Decides.{nat_tests}
use Rattle.script_lines.proofs.Table.{values, value_in}
use Rattle.verify_input.specs.Said.{small_digit}
use Rattle.verify_input.specs.declared.digit.TheConstants.{WORTHS}

-- the worth of a digit, or 2^32
abbrev pub worth_of : ℕ → ℕ
worth_of digit = if nat_lt digit 16 then digit else 4294967296

pub worth_digit : (digit : ℕ) → digit < 16 → worth_of digit ≡ digit
worth_digit digit small = grind (arith, nat_tests)

pub worth_none : (digit : ℕ) → 16 ≤ digit → worth_of digit ≡ 2 ^ 32
worth_none digit other = grind (arith, nat_tests)

pub worth_most : (digit : ℕ) → worth_of digit ≤ 2 ^ 32
worth_most digit = grind (arith, nat_tests)

table : WORTHS ≡ values (λ byte. worth_of (small_digit byte)) 0 256
unfolding values
table = refl

pub worth_there : (i other : ℕ) → i < 256 → get_or WORTHS i other ≡ worth_of (small_digit i)
worth_there i other lt = value_in (λ byte. worth_of (small_digit byte)) WORTHS table i other lt
