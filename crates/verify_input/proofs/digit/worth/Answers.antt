use Rattle.std.proofs.Common.{◌∙◌, ap, arith}
use Rattle.verify_input.specs.Said.{small_digit}
use Rattle.verify_input.proofs.Values.{worth_of, worth_there, worth_digit, worth_none, worth_most}
use Rattle.verify_input.proofs.digit.worth.Goals as goal

pub returns-clause-digit : goal.returns-clause-digit
returns-clause-digit c small =
    worth_there c.from.result _ (omega arith)
    ∙ ap (λ byte. worth_of (small_digit byte)) c.from.ensures
    ∙ worth_digit (small_digit c.args.byte) small

pub returns-clause-none : goal.returns-clause-none
returns-clause-none c other =
    worth_there c.from.result _ (omega arith)
    ∙ ap (λ byte. worth_of (small_digit byte)) c.from.ensures
    ∙ worth_none (small_digit c.args.byte) other

pub returns-clause-most : goal.returns-clause-most
returns-clause-most c =
    let is = worth_there c.from.result 0 (omega arith) ∙ ap (λ byte. worth_of (small_digit byte)) c.from.ensures in
    let most = worth_most (small_digit c.args.byte) in
    omega arith
