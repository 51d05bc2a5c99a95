use Rattle.std.proofs.Common.{arith}
use Rattle.std.proofs.lemmas.List.Folds.{length-flat_map-take}
use Rattle.journal_text.specs.Text.{word_text}
use Rattle.journal_text.proofs.event_line.put_words.Goals as goal

pub put_word-requires : goal.put_word-requires
put_word-requires c = omega (arith, length-flat_map-take word_text c.args.words.now c.loop-place.place-index (0, 0) (omega arith))
