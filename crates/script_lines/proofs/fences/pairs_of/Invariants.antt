use Rattle.std.proofs.Common.{◌≡◌, length}
use Rattle.script_lines.specs.Text.{words_of}
use Rattle.script_lines.specs.Said.{pairs_of}
use Rattle.script_lines.proofs.Pairs.{with_front}
use Rattle.script_lines.proofs.fences.pairs_of.Given as goal

abbrev pub invariant-loop-pairs : goal.invariant-loop-pairs
invariant-loop-pairs l = with_front l.pairs.items (pairs_of (words_of l.words.rest.now)) ≡ pairs_of (words_of l.fn.words.rest.now)

abbrev pub decreases-loop-pairs : goal.decreases-loop-pairs
decreases-loop-pairs l = length (words_of l.words.rest.now)
