use Rattle.std.proofs.Common.{◌≡◌, ◌+◌, ◌*◌, ◌%◌, ◌^◌, take}
use Rattle.std.specs.Prelude.{IfSome}
use Rattle.std.specs.List.{sum}
use Rattle.gpu_store.specs.Images.{picture_of}
use Rattle.gpu_store.proofs.sums.with_image.Given as goal

abbrev pub invariant-loop-y : goal.invariant-loop-y
invariant-loop-y l = IfSome (picture_of l.images l.image) (λ picture. l.total ≡ (l.fn.before + sum (take (l.y * picture.width) picture.texels)) % 2 ^ 32)
