use Rattle.std.proofs.Common.{◌≡◌, ◌∷◌, map, take}
use Rattle.gpu_plan.specs.Plans.{number_of}
use Rattle.gpu_plan.proofs.renumbering.numbers_of.Given as goal

abbrev pub invariant-loop-name : goal.invariant-loop-name
invariant-loop-name l = l.numbers.items ≡ 0 ∷ map (number_of l.plans) (take l.name-index l.names)
