-- Each clause is a lemma on the definitions.
use Rattle.gpu_plan.proofs.Holding.{value_one_further}
use Rattle.gpu_plan.proofs.Passing.{flushes_one_further, flushes_within, bound_one_further}
use Rattle.gpu_plan.proofs.laws.one_further.Goals as goal

pub returns-clause-value : goal.returns-clause-value
returns-clause-value c = value_one_further

pub returns-clause-flushes : goal.returns-clause-flushes
returns-clause-flushes c = flushes_one_further

pub returns-clause-within : goal.returns-clause-within
returns-clause-within c = flushes_within

pub returns-clause-bound : goal.returns-clause-bound
returns-clause-bound c = bound_one_further
