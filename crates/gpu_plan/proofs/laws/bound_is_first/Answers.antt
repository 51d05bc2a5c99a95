-- Each clause is a lemma on the definitions.
use Rattle.gpu_plan.proofs.Passing.{passes_below_bound, stops_at_bound, bound_within, bound_is_first}
use Rattle.gpu_plan.proofs.laws.bound_is_first.Goals as goal

pub returns-clause-below : goal.returns-clause-below
returns-clause-below c = passes_below_bound

pub returns-clause-at : goal.returns-clause-at
returns-clause-at c = stops_at_bound

pub returns-clause-within : goal.returns-clause-within
returns-clause-within c = bound_within

pub returns-clause-only : goal.returns-clause-only
returns-clause-only c = bound_is_first
