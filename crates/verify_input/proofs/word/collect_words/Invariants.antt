use Rattle.std.proofs.Common.{◌≡◌, length}
use Rattle.verify_input.specs.Said.{pieces_of, words_said}
use Rattle.verify_input.specs.Fronts.{IsCut}
use Rattle.verify_input.proofs.Words.{with_front}
use Rattle.verify_input.proofs.word.collect_words.Given as goal

abbrev pub invariant-loop-text : goal.invariant-loop-text
invariant-loop-text l = record {
  said : words_said (pieces_of l.pieces.rest.now) ≡ with_front l.words.items (words_said (pieces_of l.rest));
  cut : IsCut l.rest;
}

abbrev pub decreases-loop-text : goal.decreases-loop-text
decreases-loop-text l = length l.rest
