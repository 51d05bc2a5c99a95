use Rattle.script_answers.proofs.Accepted.{run_is_judged_whole}
use Rattle.script_answers.proofs.laws.runs_are_judged_whole.Goals as goal

pub returns : goal.returns
returns c = run_is_judged_whole
