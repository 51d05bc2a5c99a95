use Rattle.std.proofs.Common.{◌≤◌, ◌-◌, [], ◌∷◌, length}
use Rattle.gpu_plan.specs.Passes.{bound}
use Rattle.journal_verify.specs.Reached.{IsReached}
use Rattle.journal_verify.proofs.reach.Reach.advance.Given as goal

abbrev pub invariant-loop-self : goal.invariant-loop-self
invariant-loop-self l = record {
  below : l.self.upto ≤ bound l.actions l.finished (l.token ∷ []);
  reached : IsReached l.actions l.done l.self;
}

abbrev pub decreases-loop-self : goal.decreases-loop-self
decreases-loop-self l = length l.actions - l.self.upto
