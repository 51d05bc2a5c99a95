use Rattle.std.proofs.Common.{◌+◌, ◌*◌, ◌≤◌, length, take}
use Rattle.std.specs.List.{flat_map}
use Rattle.journal_text.specs.Text.{word_text}
use Rattle.journal_text.proofs.event_line.room_with.Given as goal

abbrev pub invariant-loop-place : goal.invariant-loop-place
invariant-loop-place l = (80 + length (flat_map word_text (take l.place-index l.words)) ≤ l.room) × (l.room ≤ 80 + 20 * l.place-index)
