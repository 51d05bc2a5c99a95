use Rattle.std.proofs.Common.{◌-◌, length}
use Rattle.house_core.specs.Walks.{HasWalked}
use Rattle.house_core.proofs.walk.Walk.comes_to_close.Given as goal

abbrev pub invariant-loop-self : goal.invariant-loop-self
invariant-loop-self l = HasWalked l.actions l.finished l.greatest l.self

abbrev pub decreases-loop-self : goal.decreases-loop-self
decreases-loop-self l = length l.actions - l.self.upto
