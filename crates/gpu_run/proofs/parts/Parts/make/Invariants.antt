use Rattle.std.proofs.Common.{take}
use Rattle.gpu_run.specs.Making.{AreFreshFor}
use Rattle.gpu_run.proofs.parts.Parts.make.Given as goal

abbrev pub invariant-loop-done : goal.invariant-loop-done
invariant-loop-done l = AreFreshFor (take l.done l.plans.plans) l.parts
