use Rattle.std.proofs.Common.{ap}
use Rattle.left_right.specs.Sides.{view}
use Rattle.live_view.proofs.Further.{further}
use Rattle.live_view.proofs.viewer.Viewer.look.Goals as goal

pub invariant_of-self : goal.invariant_of-self
invariant_of-self g c =
    let p = c.replace_with-number.ensures in
    further (view c.self.inside.seat.place) (view c.replace_with-number.new.dest.place) p.0 c.self.inside.latest c.self.inside.looks _ _ c.self.invariant p.1 p.2 p.3 (ap (λ r. r.1) p.4) c.saturating_add-self-inside.ensures

pub returns-clause-kept : goal.returns-clause-kept
returns-clause-kept g c =
    let p = c.replace_with-number.ensures in
    (further (view c.self.inside.seat.place) (view c.replace_with-number.new.dest.place) p.0 c.self.inside.latest c.self.inside.looks _ _ c.self.invariant p.1 p.2 p.3 (ap (λ r. r.1) p.4) c.saturating_add-self-inside.ensures).looks
