use Rattle.std.proofs.Common.{◌≡◌, ◌+◌, length, take, vec_len}
use Rattle.std.specs.List.{flat_map}
use Rattle.journal_text.specs.Appended.{Appended}
use Rattle.journal_text.specs.Text.{word_text}
use Rattle.journal_text.proofs.event_line.put_words.Given as goal

abbrev pub invariant-loop-place : goal.invariant-loop-place
invariant-loop-place l = record {
  text : Appended l.fn.out l.out (flat_map word_text (take l.place-index l.words));
  len : vec_len l.out ≡ vec_len l.fn.out + length (flat_map word_text (take l.place-index l.words));
}
