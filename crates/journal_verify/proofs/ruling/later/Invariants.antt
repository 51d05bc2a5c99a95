use Rattle.std.proofs.Common.{length}
use Rattle.journal_verify.proofs.ruling.later.Given as goal

abbrev pub decreases-loop-wish : goal.decreases-loop-wish
decreases-loop-wish l = length l.left
