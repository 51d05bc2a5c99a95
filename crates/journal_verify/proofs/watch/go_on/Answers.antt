use Rattle.std.proofs.Common.{◌≤◌, List, length, ap, sym, subst, ◌∙◌, ℕ}
use Rattle.std.specs.Prelude.{slice_get}
use Rattle.gpu_plan.specs.declared.plan.Action.{Action}
use Rattle.journal_verify.proofs.Watching.{flush_within}
use Rattle.journal_verify.proofs.watch.go_on.Goals as goal

pub has_done-requires-clause-there : goal.has_done-requires-clause-there
has_done-requires-clause-there c =
    let at = ap (λ (places : List ℕ). slice_get places c.args.finished) (sym c.requires.flushes) ∙ sym c.place_at.ensures ∙ c.in-Some.is in
    subst (λ (actions : List Action). c.in-Some.place ≤ length actions) (sym c.actions-actions.ensures.value) (flush_within c.args.plan.now.actions c.args.finished c.in-Some.place at)
