use Rattle.std.proofs.Common.{◌≡◌, false, take, reverse}
use Rattle.std.specs.List.{list_any}
use Rattle.serial_laws.specs.Going.{is_memory_loss}
use Rattle.script_answers.proofs.answer.has_memory_loss.Given as goal

abbrev pub invariant-loop-index : goal.invariant-loop-index
invariant-loop-index l = list_any is_memory_loss (take l.index (reverse l.journal.events)) ≡ false
