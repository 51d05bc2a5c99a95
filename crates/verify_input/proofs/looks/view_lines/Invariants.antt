use Rattle.verify_input.proofs.Names.{length, vec_len}
use Rattle.verify_input.proofs.Viewers.{IsNoted}
use Rattle.verify_input.proofs.looks.view_lines.Given as goal

abbrev pub invariant-loop-line : goal.invariant-loop-line
invariant-loop-line l = IsNoted l.text l.rest (vec_len l.events)

abbrev pub decreases-loop-line : goal.decreases-loop-line
decreases-loop-line l = length l.rest
