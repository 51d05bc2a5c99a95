use Rattle.std.proofs.Common.{◌≡◌, ◌+◌, drop}
use Rattle.service_tests.specs.Stirred.{puts_ahead}
use Rattle.service_tests.proofs.tests.stirred_pass.count_puts.Given as goal

abbrev pub invariant-loop-action : goal.invariant-loop-action
invariant-loop-action l = record { counted : l.count ≡ l.action-index; ahead : puts_ahead l.actions ≡ l.count + puts_ahead (drop l.action-index l.actions) }
