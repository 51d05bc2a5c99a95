-- Each clause is a lemma on the definitions.
use Rattle.gpu_plan.proofs.Passing.{passes_on, passes_on_by_greatest, bound_grows, bound_grows_by_token, bound_grows_by_greatest, bound_by_greatest}
use Rattle.gpu_plan.proofs.laws.bound_never_falls.Goals as goal

pub returns-clause-passes : goal.returns-clause-passes
returns-clause-passes c = passes_on

pub returns-clause-passes_greatest : goal.returns-clause-passes_greatest
returns-clause-passes_greatest c = passes_on_by_greatest

pub returns-clause-grows : goal.returns-clause-grows
returns-clause-grows c = bound_grows

pub returns-clause-token : goal.returns-clause-token
returns-clause-token c = bound_grows_by_token

pub returns-clause-greatest : goal.returns-clause-greatest
returns-clause-greatest c = bound_grows_by_greatest

pub returns-clause-one : goal.returns-clause-one
returns-clause-one c = bound_by_greatest
