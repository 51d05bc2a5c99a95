use Rattle.std.proofs.Common.{◌≡◌, true, false, cond, None, Some, sym, ap, ◌∙◌, arith}
use Rattle.std.specs.Char.{is_digit, digit_value}
use Rattle.std.proofs.lemmas.Bool.Decides.{nat_tests}
use Rattle.verify_input.proofs.Numbers.{digit_said}
use Rattle.verify_input.proofs.number.digit.Goals as goal

pub returns-then-byte-lt48 : goal.returns-then-byte-lt48
returns-then-byte-lt48 c =
    let either = c.then-byte-lt48.either in
    let other : is_digit c.args.byte 10 ≡ false = grind (arith, nat_tests) in
    sym (digit_said c.args.byte ∙ ap (λ b. cond b (Some (digit_value c.args.byte)) None) other)

pub returns : goal.returns
returns c =
    let low = c.if-byte-lt48.false in
    let high = c.if-byte-gt57.false in
    let is = c.from.ensures in
    let digit : is_digit c.args.byte 10 ≡ true = grind (arith, nat_tests) in
    let value : digit_value c.args.byte ≡ c.from.result = grind (arith, nat_tests) in
    sym (digit_said c.args.byte ∙ (λ i. cond (digit i) (Some (value i)) None))
