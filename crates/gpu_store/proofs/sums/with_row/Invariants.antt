use Rattle.std.proofs.Common.{◌≡◌, ◌+◌, ◌%◌, ◌^◌, take}
use Rattle.std.specs.List.{sum}
use Rattle.gpu_store.proofs.sums.with_row.Given as goal

abbrev pub invariant-loop-texel : goal.invariant-loop-texel
invariant-loop-texel l = l.total ≡ (l.fn.before + sum (take l.texel-index l.row)) % 2 ^ 32
