use Rattle.std.proofs.Common.{[], ◌∷◌, ◌++◌, ◌∙◌, ap, arith}
use Rattle.script_generator.proofs.Hexes.{one_digit}
use Rattle.script_generator.proofs.digits.put_hex.Goals as goal

pub returns-then-value-lt16 : goal.returns-then-value-lt16
returns-then-value-lt16 c =
    let items =
    c.push_reserved.ensures.items
    ∙ ap (λ digit. c.args.out.now.items ++ digit ∷ []) c.hex_digit.ensures
    ∙ ap (λ text. c.args.out.now.items ++ text) (one_digit c.args.value c.if-value-lt16.true) in
    record { items = items; few = omega arith; room = omega arith }
