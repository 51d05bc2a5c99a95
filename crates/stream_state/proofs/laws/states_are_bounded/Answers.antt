-- Each clause is a lemma on the definitions.
use Rattle.stream_state.proofs.Runs.{step_is_bounded, steps_move_on, states_are_bounded}
use Rattle.stream_state.proofs.laws.states_are_bounded.Goals as goal

pub returns-clause-step : goal.returns-clause-step
returns-clause-step c = step_is_bounded

pub returns-clause-moves : goal.returns-clause-moves
returns-clause-moves c = steps_move_on

pub returns-clause-steps : goal.returns-clause-steps
returns-clause-steps c = states_are_bounded
