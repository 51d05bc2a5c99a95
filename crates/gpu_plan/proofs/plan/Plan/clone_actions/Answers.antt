use Rattle.std.proofs.Common.{◌≡◌, ◌∙◌, ◌<◌, ◌≤◌, List, [], ◌∷◌, ◌++◌, length, take, get_or, sym, ap, subst}
use Rattle.std.proofs.lemmas.List.{take_more, take_all}
use Rattle.std.proofs.lemmas.Option.{slice_get_read}
use Rattle.gpu_plan.specs.declared.plan.Action.{Action}
use Rattle.gpu_plan.specs.Plans.{PlanData}
use Rattle.gpu_plan.proofs.plan.Plan.clone_actions.Goals as goal

pub clone_action-requires : goal.clone_action-requires
clone_action-requires c =
    let same : c.deref-action-items.result.now ≡ c.args.self.now.actions = c.deref-action-items.ensures.value ∙ ap (λ (p : PlanData). p.actions) c.self.view_is in
    let read = c.action-item.is ∙ ap (λ (l : List Action). get_or l c.loop-place.place c.action-item.result) same in
    slice_get_read c.args.self.now.actions (length c.deref-action-items.result.now) c.loop-place.place c.action-item.result (ap length same) c.loop-place-test.true read

pub loop-place-preserved : goal.loop-place-preserved
loop-place-preserved c =
    let actions = c.args.self.now.actions in
    let same : c.deref-action-items.result.now ≡ actions = c.deref-action-items.ensures.value ∙ ap (λ (p : PlanData). p.actions) c.self.view_is in
    let read = c.action-item.is ∙ ap (λ (l : List Action). get_or l c.loop-place.place c.action-item.result) same in
    let below = subst (λ (l : List Action). c.loop-place.place < length l) same c.loop-place-test.true in
    c.in_ok-push.ensures.items ∙ ap (λ (l : List Action). l ++ c.clone_action.result ∷ []) c.loop-place.invariant
    ∙ ap (λ (a : Action). take c.loop-place.place actions ++ a ∷ []) (c.clone_action.ensures ∙ read)
    ∙ sym (take_more actions c.loop-place.place c.action-item.result below)

pub returns : goal.returns
returns c =
    let same : c.deref-action-items.result.now ≡ c.args.self.now.actions = c.deref-action-items.ensures.value ∙ ap (λ (p : PlanData). p.actions) c.self.view_is in
    c.loop-place.invariant ∙ take_all c.loop-place.place c.args.self.now.actions (subst (λ (l : List Action). length l ≤ c.loop-place.place) same c.loop-place-test.false)
