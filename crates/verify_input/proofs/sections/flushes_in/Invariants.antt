use Rattle.verify_input.proofs.Names.{◌≡◌, ◌≤◌, take, flushes}
use Rattle.verify_input.proofs.sections.flushes_in.Given as goal

abbrev pub invariant-loop-action : goal.invariant-loop-action
invariant-loop-action l = record {
  value : l.count ≡ flushes (take l.action-index l.actions);
  few : l.count ≤ l.action-index;
}
