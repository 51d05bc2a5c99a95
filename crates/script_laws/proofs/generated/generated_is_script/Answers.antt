-- The clause is a lemma on the definitions.
use Rattle.script_laws.proofs.Script.{generated_is_script}
use Rattle.script_laws.proofs.generated.generated_is_script.Goals as goal

pub returns : goal.returns
returns c = record { script = generated_is_script }
