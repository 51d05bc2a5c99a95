use Rattle.std.proofs.Common.{◌≡◌, take}
use Rattle.gpu_plan.proofs.copies.clone_fenced.Given as goal

abbrev pub invariant-loop-noted : goal.invariant-loop-noted
invariant-loop-noted l = l.copies.items ≡ take l.noted-index l.fenced
