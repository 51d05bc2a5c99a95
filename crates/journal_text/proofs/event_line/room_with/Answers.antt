use Rattle.std.proofs.Common.{arith, get_or}
use Rattle.journal_text.specs.Text.{word_text}
use Rattle.journal_text.proofs.Lengths.{length-take_more, length-word}
use Rattle.journal_text.proofs.event_line.room_with.Goals as goal

pub loop-place-preserved : goal.loop-place-preserved
loop-place-preserved c =
    let words = c.args.words.now in
    let index = c.loop-place.place-index in
    let word = get_or words index (0, 0) in
    let added = c.in_ok-room.ensures in
    let more = length-take_more word_text words index (0, 0) (omega arith) in
    (omega (arith, added.1, more, length-word word.0 word.1, c.word_room.ensures.room), omega (arith, added.1, c.word_room.ensures.few))
