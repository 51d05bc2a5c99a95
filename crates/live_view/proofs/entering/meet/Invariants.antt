use Rattle.std.proofs.Common.{◌≡◌}
use Rattle.std.specs.Prelude.{Some}
use Rattle.left_right.specs.Sides.{view}
use Rattle.live_view.specs.Rule.{IsBegun}
use Rattle.live_view.specs.Seen.{front_in}
use Rattle.live_view.proofs.entering.meet.Given as goal

abbrev pub invariant-loop : goal.invariant-loop
invariant-loop g l = record {
  known : (view l.seat.place).front ≡ Some (front_in (view l.seat.place));
  looks : (view l.seat.place).looks ≡ (view l.fn.seat.place).looks;
  before : IsBegun (front_in (view l.fn.seat.place)) (front_in (view l.seat.place));
}
