use Rattle.std.proofs.Common.{reverse}
use Rattle.journal_verify.proofs.Taking.{IsTaken}
use Rattle.journal_verify.proofs.verifying.verify.Given as goal

-- the events so far are legal, and the record is what they say
abbrev pub invariant-loop-index : goal.invariant-loop-index
invariant-loop-index l = IsTaken l.plans (reverse l.journal.events) l.index l.judge
