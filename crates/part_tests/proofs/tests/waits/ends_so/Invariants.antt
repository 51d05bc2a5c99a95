use Rattle.std.proofs.Common.{◌≡◌, ◌≤◌, length}
use Rattle.part_tests.proofs.tests.waits.ends_so.Given as goal

abbrev pub invariant-loop-step : goal.invariant-loop-step
invariant-loop-step g l = record { streams : length l.core.streams ≡ 3; few : l.core.drawn ≤ l.step-index }
