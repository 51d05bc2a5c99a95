use Rattle.std.proofs.Common.{◌≡◌, take, reverse}
use Rattle.std.specs.List.{flat_map}
use Rattle.journal_text.specs.Text.{event_text}
use Rattle.journal_text.proofs.text.journal_text.Given as goal

abbrev pub invariant-loop-index : goal.invariant-loop-index
invariant-loop-index l = l.text.items ≡ flat_map event_text (take l.index (reverse l.journal.events))
