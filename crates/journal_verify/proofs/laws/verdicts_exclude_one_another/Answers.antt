use Rattle.journal_verify.proofs.laws.verdicts_exclude_one_another.Goals as goal
use Rattle.journal_verify.proofs.Firsts.{wrong_is_illegal, rule_is_one}

-- src/laws.rt:6:1
pub returns-clause-wrong : goal.returns-clause-wrong
returns-clause-wrong c = wrong_is_illegal

pub returns-clause-one : goal.returns-clause-one
returns-clause-one c = rule_is_one
