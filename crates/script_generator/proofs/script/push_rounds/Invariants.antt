use Rattle.std.proofs.Common.{◌≡◌, ◌+◌, ◌-◌, ◌*◌, ◌≤◌, ◌++◌}
use Rattle.script_generator.specs.Draws.{after_draws}
use Rattle.script_generator.specs.Generator.{rounds}
use Rattle.script_generator.proofs.script.push_rounds.Given as goal

abbrev pub invariant-loop-round : goal.invariant-loop-round
invariant-loop-round l = record {
  first : 1 ≤ l.round;
  last : l.round ≤ l.size + 1;
  text : l.out.items ++ rounds (l.size + 1 - l.round) l.stream l.round l.next ≡ l.fn.out.items ++ rounds l.size l.stream 1 l.fn.state;
  draws : after_draws (7 * (l.size + 1 - l.round)) l.next ≡ after_draws (7 * l.size) l.fn.state;
}

abbrev pub decreases-loop-round : goal.decreases-loop-round
decreases-loop-round l = l.size + 1 - l.round
