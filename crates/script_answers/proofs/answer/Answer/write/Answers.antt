use Rattle.script_answers.proofs.answer.Answer.write.Goals as goal

pub returns-in-Ran-clause-adds : goal.returns-in-Ran-clause-adds
returns-in-Ran-clause-adds g c = rw c.in-Ran.is c.write_run.ensures.adds
