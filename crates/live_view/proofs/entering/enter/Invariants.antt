use Rattle.std.proofs.Common.{◌≡◌}
use Rattle.left_right.specs.Sides.{view}
use Rattle.live_view.proofs.entering.enter.Given as goal

abbrev pub invariant-loop : goal.invariant-loop
invariant-loop g l = view l.seat.place ≡ view l.fn.seat.place
