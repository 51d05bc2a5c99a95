use Rattle.script_answers.proofs.Accepted.{whole_yes_is_yes}
use Rattle.script_answers.proofs.laws.whole_yes_is_yes.Goals as goal

pub returns : goal.returns
returns c = whole_yes_is_yes
