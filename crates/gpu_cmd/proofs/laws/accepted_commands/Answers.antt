-- The clause is a lemma on the definitions.
use Rattle.gpu_cmd.proofs.Fitting.{accepted_leaves_room}
use Rattle.gpu_cmd.proofs.laws.accepted_commands.Goals as goal

pub returns : goal.returns
returns c = accepted_leaves_room
