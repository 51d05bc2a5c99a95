use Rattle.std.proofs.Common.{◌≡◌, false, take, reverse}
use Rattle.std.specs.List.{list_any}
use Rattle.script_answers.specs.Runs.{is_error_loss}
use Rattle.script_answers.proofs.answer.has_error_loss.Given as goal

abbrev pub invariant-loop-index : goal.invariant-loop-index
invariant-loop-index l = list_any is_error_loss (take l.index (reverse l.journal.events)) ≡ false
