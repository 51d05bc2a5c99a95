use Rattle.gpu_hall.proofs.Grown.{steps_grow, returns_grow}
use Rattle.gpu_hall.proofs.laws.commits_grow_the_journal.Goals as goal

pub returns-clause-steps : goal.returns-clause-steps
returns-clause-steps c = steps_grow

pub returns-clause-returns : goal.returns-clause-returns
returns-clause-returns c = returns_grow
