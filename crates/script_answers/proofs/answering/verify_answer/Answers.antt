use Rattle.script_answers.proofs.Found.{verify_answers}
use Rattle.script_answers.proofs.answering.verify_answer.Goals as goal

pub returns : goal.returns
returns c = verify_answers c.args.input.now c.in_ok-examine.field-0 c.answer_of.result c.in_ok-examine.ensures c.answer_of.ensures
