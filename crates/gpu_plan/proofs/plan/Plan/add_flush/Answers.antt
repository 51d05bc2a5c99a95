use Rattle.std.proofs.Common.{◌≡◌, ◌∙◌, ◌++◌, ℕ, List, false, [], ◌∷◌, length, ap, arith, refl}
use Rattle.gpu_plan.specs.declared.plan.Action.TheVariants.{Flush}
use Rattle.gpu_plan.specs.Plans.{PlanData, is_closed}
use Rattle.gpu_plan.proofs.Lawful.{lawful_action}
use Rattle.gpu_plan.proofs.Dumps.{dumps_stay}
use Rattle.gpu_plan.proofs.Fencing.{some_fence, notes_grow}
use Rattle.gpu_plan.proofs.plan.Plan.add_flush.Goals as goal

pub invariant_of-self : goal.invariant_of-self
invariant_of-self c = rw c.reserve.ensures.items c.self.invariant

pub invariant_of-self-in_err-push : goal.invariant_of-self-in_err-push
invariant_of-self-in_err-push c = rw (c.in_err-push.ensures.items, c.reserve.ensures.items) c.self.invariant

pub invariant_of-self-2 : goal.invariant_of-self-2
invariant_of-self-2 c =
    let closed = ap (λ (plan : PlanData). is_closed plan.actions) c.self.view_is in
    let count = ap (λ (plan : PlanData). length plan.actions) c.self.view_is in
    let old = c.self.inside.actions.items in
    let new = c.push.new.self.items in
    let unclosed : is_closed old ≡ false = cc in
    let areas = c.self.inside.areas.value in
    let put = c.args.put in
    let fences = c.args.fences.items in
    let notes = c.self.inside.fenced.items in
    let added : new ≡ old ++ Flush put fences ∷ [] = c.in_ok-push.ensures.items ∙ ap (λ f. old ++ Flush put f ∷ []) c.of.ensures in
    let grown : c.push_reserved.new.self.items ≡ notes ++ (c.len-place.result, fences) ∷ [] = c.push_reserved.ensures.items ∙ ap (λ (before : List (ℕ × List (ℕ × ℕ))). before ++ (c.len-place.result, fences) ∷ []) c.reserve.ensures.items in
    (lawful_action areas areas (Flush put fences) old new refl c.self.invariant.0 unclosed (omega arith) tt c.requires.fenced added, dumps_stay areas.results old (Flush put fences ∷ []) new c.self.inside.dumps.items c.self.invariant.1 added, c.self.invariant.2, notes_grow notes c.push_reserved.new.self.items old new c.len-place.result put fences c.self.invariant.3 (some_fence fences c.args.fences.len c.is_empty.result c.is_empty.ensures c.if-is_empty.false c.args.fences.ok.0) (omega arith) added grown)
