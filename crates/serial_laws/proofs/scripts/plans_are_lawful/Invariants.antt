use Rattle.std.proofs.Common.{◌-◌, ◌≤◌}
use Rattle.serial_laws.specs.Scripts.{AreLawfulTo}
use Rattle.serial_laws.proofs.scripts.plans_are_lawful.Given as goal

abbrev pub invariant-loop-looked : goal.invariant-loop-looked
invariant-loop-looked l = (l.looked ≤ l.count) × AreLawfulTo l.looked l.fn.plans.plans

abbrev pub decreases-loop-looked : goal.decreases-loop-looked
decreases-loop-looked l = l.count - l.looked
