-- Each clause is a lemma on the definitions.
use Rattle.gpu_plan.proofs.Holding.{may_hold_between, may_hold_behind_flush, may_hold_fits}
use Rattle.gpu_plan.proofs.laws.held_values.Goals as goal

pub returns-clause-wider : goal.returns-clause-wider
returns-clause-wider c = may_hold_between

pub returns-clause-behind : goal.returns-clause-behind
returns-clause-behind c = may_hold_behind_flush

pub returns-clause-fits : goal.returns-clause-fits
returns-clause-fits c = may_hold_fits
