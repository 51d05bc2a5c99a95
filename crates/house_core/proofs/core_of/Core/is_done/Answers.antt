use Rattle.std.proofs.Common.{◌≡◌, false, sym, ap, subst, ◌∙◌}
use Rattle.gpu_plan.specs.Plans.{PlanData, is_closed}
use Rattle.gpu_journal.proofs.Following.{plan_here}
use Rattle.house_core.specs.Core.{CoreData, is_done}
use Rattle.house_core.proofs.Seen.{parts_of, place_seen}
use Rattle.house_core.proofs.Closes.{done_is, closed_is}
use Rattle.house_core.proofs.core_of.Core.is_done.Goals as goal

pub returns-then-ends_with_close : goal.returns-then-ends_with_close
returns-then-ends_with_close c =
    let now = parts_of c.self.inside in
    let s = c.args.stream in
    let place = place_seen now _ s c.self.view_is c.self.invariant c.requires in
    let actions = c.actions-actions.ensures.value ∙ ap (λ (plan : PlanData). plan.actions) (sym (plan_here now.plans s c.plan.result.now c.requires.0 c.plan.ensures)) in
    subst (λ (v : CoreData). false ≡ is_done v.plans v.past s) c.self.view_is
    (closed_is now s place c.index-desk.result.now _ c.index-desk.ensures (ap is_closed (sym actions) ∙ sym c.ends_with_close.ensures ∙ c.if-ends_with_close.true))

pub returns : goal.returns
returns c =
    let now = parts_of c.self.inside in
    let s = c.args.stream in
    let place = place_seen now _ s c.self.view_is c.self.invariant c.requires in
    let actions = c.actions-actions.ensures.value ∙ ap (λ (plan : PlanData). plan.actions) (sym (plan_here now.plans s c.plan.result.now c.requires.0 c.plan.ensures)) in
    subst (λ (v : CoreData). c.is_all_done.result ≡ is_done v.plans v.past s) c.self.view_is
    (c.is_all_done.ensures ∙ done_is now s place c.index-desk.result.now _ c.index-desk.ensures (ap is_closed (sym actions) ∙ sym c.ends_with_close.ensures ∙ c.if-ends_with_close.false))
