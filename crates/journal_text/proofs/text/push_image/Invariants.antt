use Rattle.std.proofs.Common.{◌≡◌, ◌++◌}
use Rattle.std.specs.Prelude.{IfSome}
use Rattle.std.specs.List.{flat_map, range_with_len}
use Rattle.gpu_store.specs.Images.{picture_of}
use Rattle.gpu_store.specs.Picture.{texel_row}
use Rattle.journal_text.specs.Picture.{head_text, row_text}
use Rattle.journal_text.proofs.text.push_image.Given as goal

abbrev pub invariant-loop-y : goal.invariant-loop-y
invariant-loop-y l = IfSome (picture_of l.images l.image) (λ picture. l.out.items ≡ (l.fn.out.items ++ head_text l.image picture.width picture.height) ++ flat_map (λ y. row_text (texel_row picture y)) (range_with_len 0 l.y))
