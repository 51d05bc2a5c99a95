use Rattle.race_laws.proofs.Outcomes.{one_result}
use Rattle.race_laws.proofs.Texts.{one_text}
use Rattle.race_laws.proofs.Settling.{premises_agree}
use Rattle.race_laws.proofs.laws.one_result.Goals as goal

pub returns-clause-premises : goal.returns-clause-premises
returns-clause-premises c = premises_agree

pub returns-clause-result : goal.returns-clause-result
returns-clause-result c = one_result

pub returns-clause-text : goal.returns-clause-text
returns-clause-text c = one_text
