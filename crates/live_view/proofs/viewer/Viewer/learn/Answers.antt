use Rattle.std.proofs.Common.{◌≤◌, List, length, subst, arith}
use Rattle.std.specs.List.{All}
use Rattle.left_right.specs.Sides.{view}
use Rattle.live_view.specs.declared.version.Version.{Version}
use Rattle.live_view.specs.declared.known.Known.{Known}
use Rattle.live_view.specs.Fronts.{FrontData}
use Rattle.live_view.specs.Looks.{IsOf, latest_of}
use Rattle.live_view.specs.Seen.{ViewerData, front_in}
use Rattle.live_view.proofs.Viewing.{looks_told}
use Rattle.live_view.proofs.Further.{low_by}
use Rattle.live_view.proofs.viewer.Viewer.learn.Goals as goal

pub returns-clause-each : goal.returns-clause-each
returns-clause-each g c told_all =
    let p = c.replace_with.ensures in
    let known : Known = view c.self.inside.seat.place in
    let told : List Version = c.told.inside.front.versions in
    let new : List Version = (front_in (view c.replace_with.new.dest.place)).versions in
    let low = low_by c.are_told.result c.self.inside.latest c.number-number.result c.are_told.ensures told_all in
    let less : latest_of known.looks ≤ length told = omega (arith, low, c.self.invariant.latest_is, c.number-number.ensures.number) in
    let all : All (IsOf told) known.looks = looks_told (front_in known).versions told new known.looks c.self.invariant.looks p.1.1.0.longer p.1.1.1 less in
    subst (λ (f : FrontData). All (IsOf f.versions) c.args.self.now.looks) c.told.view_is (subst (λ (w : ViewerData). All (IsOf told) w.looks) c.self.view_is all)
