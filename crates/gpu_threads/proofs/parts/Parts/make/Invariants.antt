use Rattle.std.proofs.Common.{take}
use Rattle.gpu_threads.specs.Making.{HaveDoneNothing}
use Rattle.gpu_threads.proofs.parts.Parts.make.Given as goal

abbrev pub invariant-loop-done : goal.invariant-loop-done
invariant-loop-done g l = HaveDoneNothing (take l.done l.plans.plans) l.parts
