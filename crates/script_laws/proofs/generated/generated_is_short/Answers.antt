-- The clause is a lemma on the definitions.
use Rattle.script_laws.proofs.Lengths.{generated_is_short}
use Rattle.script_laws.proofs.generated.generated_is_short.Goals as goal

pub returns : goal.returns
returns c = record { short = generated_is_short }
