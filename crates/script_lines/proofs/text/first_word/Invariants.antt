use Rattle.std.proofs.Common.{◌≡◌, length}
use Rattle.script_lines.specs.Text.{words_of}
use Rattle.script_lines.proofs.text.first_word.Given as goal

abbrev pub invariant-loop-end : goal.invariant-loop-end
invariant-loop-end l = words_of l.left ≡ words_of l.line

abbrev pub decreases-loop-end : goal.decreases-loop-end
decreases-loop-end l = length l.left
