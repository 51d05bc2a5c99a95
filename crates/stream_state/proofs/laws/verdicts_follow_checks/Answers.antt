-- Each clause is a lemma on the definitions.
use Rattle.stream_state.proofs.Telling.{copy_refuses, state_refuses, command_passes, verdict_passed, verdict_taken}
use Rattle.stream_state.proofs.laws.verdicts_follow_checks.Goals as goal

pub returns-clause-copy : goal.returns-clause-copy
returns-clause-copy c = copy_refuses

pub returns-clause-state : goal.returns-clause-state
returns-clause-state c = state_refuses

pub returns-clause-passes : goal.returns-clause-passes
returns-clause-passes c = command_passes

pub returns-clause-passed : goal.returns-clause-passed
returns-clause-passed c = verdict_passed

pub returns-clause-taken : goal.returns-clause-taken
returns-clause-taken c = verdict_taken
