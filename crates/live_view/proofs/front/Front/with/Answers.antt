use Rattle.std.proofs.Common.{◌≡◌, ◌+◌, ◌==◌, Bool, true, ◌++◌, ◌∷◌, [], length, length-append, List, sym, ◌∙◌, ap, subst, arith}
use Rattle.std.specs.Prelude.{MatchBool}
use Rattle.std.proofs.lemmas.Bool.Decides.{nat_tests}
use Rattle.live_view.specs.declared.version.Version.{Version}
use Rattle.live_view.specs.Versions.{AreRising, IsLatest}
use Rattle.live_view.specs.Fronts.{FrontData}
use Rattle.live_view.specs.Nexts.{version_of_next}
use Rattle.live_view.proofs.Adding.{adds_moves, rises}
use Rattle.live_view.proofs.front.Front.with.Goals as goal

pub compare_exchange-found-requires : goal.compare_exchange-found-requires
compare_exchange-found-requires c =
    let h = c.requires.count in
    let seen = c.again-seen.ensures in
    let offer = c.plain-offer.ensures in
    let pen = c.no_pen-pen.ensures in
    let of : c.self.inside.seen.book ≡ c.args.count.now.book = ap (λ (f : FrontData). f.view) c.self.view_is ∙ sym (ap (λ w. w.book) h) in
    let latest : IsLatest c.self.inside.seen.log (version_of_next c.args.next.now).events = subst (λ (f : FrontData). IsLatest f.versions (version_of_next c.args.next.now).events) (sym c.self.view_is) c.requires.rising in (
      ap (λ w. w.tracked) h,
      ap (λ s. s.book) seen ∙ of,
      pen.0 ∙ (ap (λ s. s.book) seen ∙ of),
      offer.0,
      rw (ap (λ w. w.key) h, pen.1, offer.1, offer.3, ap (λ s. s.log) seen) (adds_moves c.self.inside.seen.log (version_of_next c.args.next.now) c.self.inside.number (sym c.self.invariant.0) latest),
    )

pub invariant_of-result : goal.invariant_of-result
invariant_of-result c =
    let old : List Version = c.self.inside.seen.log in
    let new : List Version = c.compare_exchange-found.new.seen.log in
    let v : Version = version_of_next c.args.next.now in
    let hit : (c.compare_exchange-found.result == c.self.inside.number) ≡ true = grind (arith, nat_tests, c.if-found-self.false) in
    let found = subst (λ (b : Bool). MatchBool b (new ≡ c.again-seen.result.log ++ c.plain-offer.result.ask ∷ []) (Unit {0})) hit c.compare_exchange-found.ensures.7 in
    let added : new ≡ old ++ v ∷ [] = found ∙ ap (λ (l : List Version). l ++ c.plain-offer.result.ask ∷ []) (ap (λ s. s.log) c.again-seen.ensures) ∙ ap (λ (w : Version). old ++ w ∷ []) c.plain-offer.ensures.1 in
    let latest : IsLatest old v.events = subst (λ (f : FrontData). IsLatest f.versions v.events) (sym c.self.view_is) c.requires.rising in
    let number : c.self.inside.number + 1 ≡ length new = omega (arith, c.self.invariant.0, ap length added, length-append old (v ∷ [])) in
    (number, subst AreRising (sym added) (rises old v c.self.invariant.1 latest))
