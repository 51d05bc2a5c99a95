use Rattle.std.proofs.Common.{◌≡◌, ◌-◌, ◌≤◌, length}
use Rattle.journal_verify.specs.Held.{IsHeld}
use Rattle.journal_verify.proofs.held.Held.advance.Given as goal

abbrev pub invariant-loop-self : goal.invariant-loop-self
invariant-loop-self l = record {
  within : l.self.done ≤ l.to;
  places : length l.self.values ≡ length l.fn.self.values;
  held : IsHeld l.actions l.self;
}

abbrev pub decreases-loop-self : goal.decreases-loop-self
decreases-loop-self l = l.to - l.self.done
