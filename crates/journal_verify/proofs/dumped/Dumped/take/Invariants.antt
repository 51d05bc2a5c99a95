use Rattle.std.proofs.Common.{take}
use Rattle.journal_verify.specs.Dumped.{HasTakenUp}
use Rattle.journal_verify.proofs.dumped.Dumped.take.Given as goal

abbrev pub invariant-loop-place : goal.invariant-loop-place
invariant-loop-place l = HasTakenUp (take l.place-index l.writes) l.finished l.fn.self l.self
