-- Each clause is a lemma on the definitions.
use Rattle.gpu_cmd.proofs.Rising.{places_rise, places_are_there}
use Rattle.gpu_cmd.proofs.laws.command_places.Goals as goal

pub returns-clause-rise : goal.returns-clause-rise
returns-clause-rise c = places_rise

pub returns-clause-there : goal.returns-clause-there
returns-clause-there c = places_are_there
