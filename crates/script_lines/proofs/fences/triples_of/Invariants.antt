use Rattle.std.proofs.Common.{◌≡◌, length}
use Rattle.script_lines.specs.Text.{words_of}
use Rattle.script_lines.specs.Said.{triples_of}
use Rattle.script_lines.specs.Mentioned.{mentioned_by}
use Rattle.script_lines.proofs.Pairs.{with_front}
use Rattle.script_lines.proofs.fences.triples_of.Given as goal

abbrev pub invariant-loop-fences : goal.invariant-loop-fences
invariant-loop-fences l = record {
  said : with_front l.fences.items (triples_of (mentioned_by l.fn.names (words_of l.fn.words.rest.now)) (words_of l.words.rest.now)) ≡ triples_of (mentioned_by l.fn.names (words_of l.fn.words.rest.now)) (words_of l.fn.words.rest.now);
  mentioned : mentioned_by l.names (words_of l.words.rest.now) ≡ mentioned_by l.fn.names (words_of l.fn.words.rest.now);
}

abbrev pub decreases-loop-fences : goal.decreases-loop-fences
decreases-loop-fences l = length (words_of l.words.rest.now)
