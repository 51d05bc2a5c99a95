-- Each clause is a lemma on the definitions.
use Rattle.stream_state.proofs.Telling.{effects_tell, releases_rise}
use Rattle.stream_state.proofs.laws.effects_tell_all.Goals as goal

pub returns-clause-tell : goal.returns-clause-tell
returns-clause-tell c = effects_tell

pub returns-clause-rise : goal.returns-clause-rise
returns-clause-rise c = releases_rise
