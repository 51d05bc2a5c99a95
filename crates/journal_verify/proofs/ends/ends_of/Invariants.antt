use Rattle.std.proofs.Common.{◌≡◌, ℕ, ◌+◌, ◌<◌, length, take, reverse}
use Rattle.std.specs.Prelude.{slice_index_or}
use Rattle.gpu_journal.specs.declared.end.End.TheVariants.{Done}
use Rattle.gpu_journal.specs.Ended.{end_of}
use Rattle.journal_verify.proofs.ends.ends_of.Given as goal

abbrev pub invariant-loop-index : goal.invariant-loop-index
invariant-loop-index l = record {
  len : length l.ends.items ≡ l.count;
  each : (k : ℕ) → k < l.count → slice_index_or l.ends.items k Done ≡ end_of (reverse (take l.index (reverse l.journal.events))) (k + 1);
}
