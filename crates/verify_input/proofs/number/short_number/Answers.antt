use Rattle.std.proofs.Common.{◌≡◌, ◌+◌, ◌*◌, Bool, true, false, cond, eqb, None, Some, [], ◌∷◌, get_or, sym, ap, ◌∙◌, arith}
use Rattle.std.proofs.lemmas.Bool.Decides.{nat_tests}
use Rattle.script_lines.specs.Numbers.{decimal_of}
use Rattle.verify_input.proofs.Numbers.{digit_few, of_two, two_said}
use Rattle.verify_input.proofs.number.short_number.Goals as goal

pub returns-in_err-ten-in-2 : goal.returns-in_err-ten-in-2
returns-in_err-ten-in-2 c =
    rw (c.from_residual.ensures)
    (sym (two_said c.args.word.now c.in-2.is ∙ (λ i. of_two (sym c.in_err-ten-in-2.ensures i) (decimal_of (get_or c.args.word.now 1 0 ∷ [])))))

pub returns-in_err-one-in-2 : goal.returns-in_err-one-in-2
returns-in_err-one-in-2 c =
    rw (c.from_residual-in_err-one-in-2.ensures)
    (sym (two_said c.args.word.now c.in-2.is ∙ (λ i. of_two (sym c.in_ok-ten-in-2.ensures i) (sym c.in_err-one-in-2.ensures i))))

pub returns-then-ten-eq0 : goal.returns-then-ten-eq0
returns-then-ten-eq0 c =
    let ten = c.in_ok-ten-in-2.ten in
    let is = c.if-ten-eq0.true in
    let test : eqb ten 0 ≡ true = grind (arith, nat_tests) in
    sym (two_said c.args.word.now c.in-2.is ∙ (λ i. of_two (sym c.in_ok-ten-in-2.ensures i) (sym c.in_ok-one-in-2.ensures i))
    ∙ ap (λ (b : Bool). cond b None (Some (10 * ten + c.in_ok-one-in-2.one))) test)

pub overflow_mul-result : goal.overflow_mul-result
overflow_mul-result c = let few = digit_few _ c.in_ok-ten-in-2.ten (sym c.in_ok-ten-in-2.ensures) in omega arith

pub overflow_add-result : goal.overflow_add-result
overflow_add-result c =
    let few = digit_few _ c.in_ok-ten-in-2.ten (sym c.in_ok-ten-in-2.ensures) in
    let less = digit_few _ c.in_ok-one-in-2.one (sym c.in_ok-one-in-2.ensures) in
    omega arith

pub returns-else-ten-eq0 : goal.returns-else-ten-eq0
returns-else-ten-eq0 c =
    let ten = c.in_ok-ten-in-2.ten in
    let is = c.if-ten-eq0.false in
    let test : eqb ten 0 ≡ false = grind (arith, nat_tests) in
    sym (two_said c.args.word.now c.in-2.is ∙ (λ i. of_two (sym c.in_ok-ten-in-2.ensures i) (sym c.in_ok-one-in-2.ensures i))
    ∙ ap (λ (b : Bool). cond b None (Some (10 * ten + c.in_ok-one-in-2.one))) test)
