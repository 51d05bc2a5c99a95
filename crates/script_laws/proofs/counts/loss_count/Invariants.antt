use Rattle.std.proofs.Common.{◌≡◌, take, reverse}
use Rattle.std.specs.List.{count_by}
use Rattle.script_laws.specs.Trials.{is_loss}
use Rattle.script_laws.proofs.counts.loss_count.Given as goal

abbrev pub invariant-loop-index : goal.invariant-loop-index
invariant-loop-index l = l.count ≡ count_by is_loss (take l.index (reverse l.journal.events))
