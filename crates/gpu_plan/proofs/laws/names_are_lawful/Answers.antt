-- The clause is a lemma on the definitions.
use Rattle.gpu_plan.proofs.LawfulNames.{names_are_lawful}
use Rattle.gpu_plan.proofs.laws.names_are_lawful.Goals as goal

pub returns : goal.returns
returns c = record { names = names_are_lawful }
