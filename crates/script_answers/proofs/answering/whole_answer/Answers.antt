use Rattle.std.proofs.Common.{ℕ, subst}
use Rattle.verify_input.specs.Whole.{FindsWhole}
use Rattle.script_answers.proofs.Found.{whole_answers}
use Rattle.script_answers.proofs.answering.whole_answer.Goals as goal

pub returns : goal.returns
returns g c =
    let input = c.args.input.now in
    let finding = c.in_ok-examine_whole.field-0 in
    whole_answers (g.H.Hook.base c.args.hook) input finding c.answer_of.result (subst (λ (b : ℕ). FindsWhole b input finding) c.base.ensures c.in_ok-examine_whole.ensures) c.answer_of.ensures
