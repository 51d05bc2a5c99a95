use Rattle.std.proofs.Common.{sym, subst}
use Rattle.live_view.specs.declared.shown.Shown.{Shown}
use Rattle.live_view.specs.Seen.{IsViewWriter}
use Rattle.live_view.proofs.Stepping.{begins, begun_self}
use Rattle.live_view.proofs.writer.ViewWriter.fresh.Goals as goal

pub invariant_of-result : goal.invariant_of-result
invariant_of-result c =
    subst (λ (s : Shown). IsViewWriter s c.args.roll) (sym c.requires.published) (record { last = begins c.args.roll c.requires.versions; begun = begun_self c.args.roll })
