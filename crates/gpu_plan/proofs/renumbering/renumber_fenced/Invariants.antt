use Rattle.std.proofs.Common.{◌≡◌}
use Rattle.gpu_plan.specs.Renumbered.{renumbered_note}
use Rattle.gpu_plan.proofs.Partly.{partly}
use Rattle.gpu_plan.proofs.renumbering.renumber_fenced.Given as goal

abbrev pub invariant-loop-noted : goal.invariant-loop-noted
invariant-loop-noted l = l.fenced ≡ partly (renumbered_note l.numbers) l.noted-index l.fn.fenced
