use Rattle.std.proofs.Common.{◌≡◌, List, fold, ap, sym, ◌∙◌, subst}
use Rattle.live_view.specs.declared.shown.Shown.{Shown}
use Rattle.live_view.specs.declared.step.Step.{Step}
use Rattle.live_view.specs.Copies.{published}
use Rattle.live_view.specs.Steps.{shown_after}
use Rattle.live_view.specs.Rule.{IsLast, IsBegun}
use Rattle.live_view.proofs.Keeping.{turns_publish}
use Rattle.live_view.proofs.Stepping.{begins, begun_self}
use Rattle.live_view.proofs.making.copies_of.Goals as goal

pub publish_as-copies-requires : goal.publish_as-copies-requires
publish_as-copies-requires g c next is =
    let e = c.in_ok-copies.ensures in
    let shown = published c.in_ok-copies.copies in
    let same : next ≡ shown = is ∙ ap (λ (steps : List Step). fold shown_after shown steps) e.1 in
    let one = e.0 ∙ c.first.ensures in
    let last : IsLast shown.version shown.front.versions = subst (λ (s : Shown). IsLast s.version s.front.versions) (sym one) (begins c.args.front.now c.requires.first) in
    turns_publish _ _ shown next (subst (λ (s : Shown). IsLast s.version s.front.versions) (sym same) last) (subst (λ (s : Shown). IsBegun shown.front s.front) (sym same) (begun_self shown.front))
