use Rattle.script_answers.proofs.Told.{same_viewed_run_is_same_history}
use Rattle.script_answers.proofs.laws.viewed_runs_tell_histories.Goals as goal

pub returns : goal.returns
returns c = same_viewed_run_is_same_history
