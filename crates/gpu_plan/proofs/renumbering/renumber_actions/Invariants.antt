use Rattle.std.proofs.Common.{◌≡◌}
use Rattle.gpu_plan.specs.Renumbered.{renumbered_action}
use Rattle.gpu_plan.proofs.Partly.{partly}
use Rattle.gpu_plan.proofs.renumbering.renumber_actions.Given as goal

abbrev pub invariant-loop-action : goal.invariant-loop-action
invariant-loop-action l = record {
  at : l.place ≡ l.action-index;
  actions : l.actions ≡ partly (renumbered_action l.numbers) l.action-index l.fn.actions;
}
