use Rattle.std.proofs.Common.{◌≡◌}
use Rattle.gpu_plan.specs.Renumbered.{renumbered_fence}
use Rattle.gpu_plan.proofs.Partly.{partly}
use Rattle.gpu_plan.proofs.renumbering.renumber_pairs.Given as goal

abbrev pub invariant-loop-pair : goal.invariant-loop-pair
invariant-loop-pair l = l.pairs ≡ partly (renumbered_fence l.numbers) l.pair-index l.fn.pairs
