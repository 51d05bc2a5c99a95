use Rattle.std.proofs.Common.{◌≡◌, ◌+◌, drop}
use Rattle.journal_verify.specs.Copy.{is_row}
use Rattle.journal_verify.proofs.copy.follow.Given as goal

abbrev pub invariant-loop-index : goal.invariant-loop-index
invariant-loop-index l = is_row l.from l.words ≡ is_row (l.from + l.index) (drop l.index l.words)
