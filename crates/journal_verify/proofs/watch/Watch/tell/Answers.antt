use Rattle.std.proofs.Common.{◌≤◌, List, [], ◌∷◌, sym, subst, arith}
use Rattle.gpu_plan.specs.declared.plan.Action.{Action}
use Rattle.gpu_plan.specs.Passes.{bound}
use Rattle.journal_verify.specs.Kept.{IsWatch}
use Rattle.journal_verify.proofs.Watching.{tell_further}
use Rattle.journal_verify.proofs.watch.Watch.tell.Goals as goal

pub go_on-requires-clause-below : goal.go_on-requires-clause-below
go_on-requires-clause-below c =
    let own = subst (IsWatch c.args.plan.now) (sym c.self.view_is) c.requires in
    let greatest = c.max-self-inside.ensures in
    subst (λ (actions : List Action). c.self.inside.client.reached.upto ≤ bound actions c.self.inside.finished (c.max-self-inside.result ∷ [])) (sym c.actions.ensures.value)
    (tell_further c.args.plan.now _ c.max-self-inside.result (omega arith) own)
