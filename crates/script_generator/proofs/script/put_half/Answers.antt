use Rattle.std.proofs.Common.{◌++◌, ◌∙◌, ap, arith}
use Rattle.script_generator.proofs.Joining.{first_half, second_half}
use Rattle.script_generator.proofs.script.put_half.Goals as goal

pub returns-then-half-eq0 : goal.returns-then-half-eq0
returns-then-half-eq0 c =
    let items =
    c.put_text.ensures.items
    ∙ ap (λ text. c.args.out.now.items ++ text) (first_half c.args.half c.if-half-eq0.true) in
    record { items = items; few = omega arith; room = omega arith }

pub returns-else-half-eq0 : goal.returns-else-half-eq0
returns-else-half-eq0 c =
    let items =
    c.put_text-else-half-eq0.ensures.items
    ∙ ap (λ text. c.args.out.now.items ++ text) (second_half c.args.half (omega (arith, c.if-half-eq0.false, c.requires.half))) in
    record { items = items; few = omega arith; room = omega arith }
