-- Whether all spans are apart is whether those not yet passed are, and each turn passes one.
use Rattle.std.proofs.Common.{◌≡◌, length}
use Rattle.gpu_cmd.specs.Tiling.{all_apart}
use Rattle.gpu_cmd.proofs.areas.all_apart.Given as goal

abbrev pub invariant-loop-rest : goal.invariant-loop-rest
invariant-loop-rest l = all_apart l.spans ≡ all_apart l.rest

abbrev pub decreases-loop-rest : goal.decreases-loop-rest
decreases-loop-rest l = length l.rest
