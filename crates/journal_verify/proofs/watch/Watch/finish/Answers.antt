use Rattle.std.proofs.Common.{◌+◌, List, ap, sym, subst, ◌∙◌, ℕ}
use Rattle.std.specs.Prelude.{slice_get}
use Rattle.journal_verify.specs.Kept.{IsWatch}
use Rattle.journal_verify.proofs.Watching.{finish_further, done_before}
use Rattle.journal_verify.proofs.watch.Watch.finish.Goals as goal

pub go_on-requires-clause-below : goal.go_on-requires-clause-below
go_on-requires-clause-below c = finish_further c.args.plan.now _ (subst (IsWatch c.args.plan.now) (sym c.self.view_is) c.requires.watch)

pub go_on-requires-clause-before : goal.go_on-requires-clause-before
go_on-requires-clause-before c = λ place at.
    done_before c.args.plan.now _ place (subst (IsWatch c.args.plan.now) (sym c.self.view_is) c.requires.watch)
    (ap (λ (places : List ℕ). slice_get places (c.self.inside.finished + 1)) (sym c.as_slice.ensures.value) ∙ at)
