use Rattle.std.proofs.Common.{◌≤◌, length, List, ap, subst, arith}
use mathlib.Core.List.{IsPrefix}
use Rattle.live_view.specs.declared.version.Version.{Version}
use Rattle.live_view.specs.Fronts.{FrontData}
use Rattle.live_view.proofs.Prefixes.{prefix_shorter}
use Rattle.live_view.proofs.front.Front.shows_prefix.Goals as goal

pub returns : goal.returns
returns c less =
    let both = c.learn.new.self.log in
    let this : IsPrefix c.self.inside.seen.log both = subst (λ (l : List Version). IsPrefix l both) (ap (λ s. s.log) c.again-both.ensures) c.learn.ensures.2 in
    let here = ap (λ (f : FrontData). length f.versions) c.self.view_is in
    let there = ap (λ (f : FrontData). length f.versions) c.other.view_is in
    let shorter : length c.self.inside.seen.log ≤ length c.other.inside.seen.log = omega (arith, here, there, less) in
    rw (← c.self.view_is, ← c.other.view_is) (prefix_shorter c.self.inside.seen.log c.other.inside.seen.log both this c.learn.ensures.3 shorter)
