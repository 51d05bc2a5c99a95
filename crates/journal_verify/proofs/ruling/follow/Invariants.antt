use Rattle.std.proofs.Common.{reverse}
use Rattle.journal_verify.proofs.Keeping.{IsOnWay}
use Rattle.journal_verify.proofs.ruling.follow.Given as goal

-- the events so far are legal, and what is kept is what they say
abbrev pub invariant-loop-index : goal.invariant-loop-index
invariant-loop-index l = IsOnWay l.plans (reverse l.journal.events) l.index l.followed
