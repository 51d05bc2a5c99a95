use Rattle.std.proofs.Common.{◌≡◌, length, take}
use Rattle.std.specs.List.{flat_map}
use Rattle.journal_text.specs.Picture.{image_text}
use Rattle.journal_text.proofs.text.picture_text.Given as goal

abbrev pub invariant-loop-image : goal.invariant-loop-image
invariant-loop-image l = l.text.items ≡ flat_map image_text (take (length l.yielded) l.images)
