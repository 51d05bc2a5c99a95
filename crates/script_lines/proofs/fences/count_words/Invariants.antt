use Rattle.std.proofs.Common.{◌≡◌, ◌+◌, length}
use Rattle.script_lines.specs.Text.{words_of}
use Rattle.script_lines.proofs.fences.count_words.Given as goal

abbrev pub invariant-loop-word : goal.invariant-loop-word
invariant-loop-word l = l.count + length (words_of l._word-iterator.rest.now) ≡ length (words_of l.fn.words.rest.now)
