use Rattle.std.proofs.Common.{length, reverse}
use Rattle.verify_input.proofs.Lines.{IsRead}
use Rattle.verify_input.proofs.reading.read_journal.Given as goal

abbrev pub invariant-loop-rest : goal.invariant-loop-rest
invariant-loop-rest l = IsRead l.text (reverse l.journal.events) l.rest

abbrev pub decreases-loop-rest : goal.decreases-loop-rest
decreases-loop-rest l = length l.rest
