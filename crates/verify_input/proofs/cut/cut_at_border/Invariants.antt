use Rattle.verify_input.proofs.Names.{length}
use Rattle.verify_input.proofs.Borders.{IsOn}
use Rattle.verify_input.proofs.cut.cut_at_border.Given as goal

-- a given number of lines is gone through, none of which ends the part
abbrev pub invariant-loop-line : goal.invariant-loop-line
invariant-loop-line l = IsOn l.border l.text l.rest l.lines

abbrev pub decreases-loop-line : goal.decreases-loop-line
decreases-loop-line l = length l.rest
