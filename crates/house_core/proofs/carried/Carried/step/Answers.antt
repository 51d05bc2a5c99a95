use Rattle.std.proofs.Common.{refl}
use Rattle.house_core.proofs.carried.Carried.step.Goals as goal

pub invariant_of-self : goal.invariant_of-self
invariant_of-self c =
    let lawful = rw c.refresh.ensures.facts at c.refresh.ensures.lawful in
    rw (c.note.ensures.half, c.numbers-numbers.ensures, c.refresh.ensures.facts) (c.self.invariant.0, lawful, refl, refl)
