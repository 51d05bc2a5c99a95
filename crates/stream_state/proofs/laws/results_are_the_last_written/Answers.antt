-- Each clause is a lemma on the definitions.
use Rattle.stream_state.proofs.Runs.{results_are_last_written, writes_rise}
use Rattle.stream_state.proofs.Places.{writes_are_there}
use Rattle.stream_state.proofs.laws.results_are_the_last_written.Goals as goal

pub returns-clause-last : goal.returns-clause-last
returns-clause-last c = results_are_last_written

pub returns-clause-rise : goal.returns-clause-rise
returns-clause-rise c = writes_rise

pub returns-clause-there : goal.returns-clause-there
returns-clause-there c = writes_are_there
