use Rattle.std.proofs.Common.{◌≡◌, false, ◌∷◌, [], length, ap, arith}
use Rattle.gpu_plan.specs.Plans.{PlanData, is_closed}
use Rattle.gpu_plan.proofs.Lawful.{lawful_action}
use Rattle.gpu_plan.proofs.Dumps.{dumps_stay}
use Rattle.gpu_plan.proofs.Fencing.{few_of_none, notes_stay, one_unfenced}
use Rattle.gpu_plan.proofs.plan.Plan.add_action.Goals as goal

pub invariant_of-self : goal.invariant_of-self
invariant_of-self c = rw c.in_err-push.ensures.items c.self.invariant

pub invariant_of-self-2 : goal.invariant_of-self-2
invariant_of-self-2 c =
    let areas = ap (λ (plan : PlanData). plan.areas) c.self.view_is in
    let closed = ap (λ (plan : PlanData). is_closed plan.actions) c.self.view_is in
    let count = ap (λ (plan : PlanData). length plan.actions) c.self.view_is in
    let old = c.self.inside.actions.items in
    let unclosed : is_closed old ≡ false = cc in
    (lawful_action c.self.inside.areas.value c.args.self.now.areas c.args.action old c.push.new.self.items (cc) c.self.invariant.0 unclosed (omega arith) c.requires.within (few_of_none c.args.action c.requires.unfenced) c.in_ok-push.ensures.items, dumps_stay c.self.inside.areas.value.results old (c.args.action ∷ []) c.push.new.self.items c.self.inside.dumps.items c.self.invariant.1 c.in_ok-push.ensures.items, c.self.invariant.2, notes_stay c.self.inside.fenced.items old (c.args.action ∷ []) c.push.new.self.items c.self.invariant.3 (one_unfenced (length old) c.args.action c.requires.unfenced) c.in_ok-push.ensures.items)
