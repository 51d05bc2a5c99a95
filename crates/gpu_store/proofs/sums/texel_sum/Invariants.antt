use Rattle.std.proofs.Common.{◌≡◌, ◌%◌, ◌^◌, length, take}
use Rattle.std.specs.List.{sum_by}
use Rattle.gpu_store.proofs.Totals.{texels_in}
use Rattle.gpu_store.proofs.sums.texel_sum.Given as goal

abbrev pub invariant-loop-image : goal.invariant-loop-image
invariant-loop-image l = l.total ≡ sum_by texels_in (take (length l.yielded) l.images) % 2 ^ 32
