use Rattle.std.proofs.Common.{sym, subst}
use Rattle.live_view.specs.declared.shown.Shown.{Shown}
use Rattle.live_view.specs.Copies.{published}
use Rattle.live_view.specs.Rule.{IsLast, IsBegun}
use Rattle.live_view.proofs.Keeping.{turns_publish}
use Rattle.live_view.proofs.copies.show.Goals as goal

pub publish_as-requires : goal.publish_as-requires
publish_as-requires g c next is =
    let last = subst (λ (n : Shown). IsLast n.version n.front.versions) (sym is) c.requires.last in
    let begun = subst (λ (n : Shown). IsBegun (published c.args.copies).front n.front) (sym is) c.requires.begun in
    turns_publish _ _ (published c.args.copies) next last begun
