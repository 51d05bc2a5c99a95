use Rattle.std.proofs.Common.{◌≡◌, ◌++◌}
use Rattle.gpu_house.specs.Making.{fresh_slots}
use Rattle.gpu_house.proofs.making.slots_of.Given as goal

abbrev pub invariant-loop-side : goal.invariant-loop-side
invariant-loop-side g l = l.slots.items ++ fresh_slots l.side-iterator.rest.items ≡ fresh_slots l.fn.sides.items
