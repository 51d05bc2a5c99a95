use Rattle.std.proofs.Common.{◌≡◌, ◌∙◌, ◌++◌, ℕ, List, false, [], ◌∷◌, length, ap, arith, refl}
use Rattle.gpu_cmd.specs.Spans.{words_in}
use Rattle.gpu_plan.specs.declared.plan.Action.TheVariants.{Finish}
use Rattle.gpu_plan.specs.Plans.{PlanData, is_closed}
use Rattle.gpu_plan.proofs.Lawful.{lawful_action}
use Rattle.gpu_plan.proofs.Dumps.{dumps_grow, rising_grow}
use Rattle.gpu_plan.proofs.Fencing.{notes_stay}
use Rattle.gpu_plan.proofs.plan.Plan.add_dump.Goals as goal

pub invariant_of-self : goal.invariant_of-self
invariant_of-self c = rw c.reserve.ensures.items c.self.invariant

pub invariant_of-self-in_err-push : goal.invariant_of-self-in_err-push
invariant_of-self-in_err-push c = rw (c.in_err-push.ensures.items, c.reserve.ensures.items) c.self.invariant

pub invariant_of-self-2 : goal.invariant_of-self-2
invariant_of-self-2 c =
    let closed = ap (λ (plan : PlanData). is_closed plan.actions) c.self.view_is in
    let count = ap (λ (plan : PlanData). length plan.actions) c.self.view_is in
    let results = ap (λ (plan : PlanData). words_in plan.areas.results) c.self.view_is in
    let old = c.self.inside.actions.items in
    let unclosed : is_closed old ≡ false = cc in
    let areas = c.self.inside.areas.value in
    let dumped = c.push_reserved.ensures.items ∙ ap (λ (dumps : List (ℕ × ℕ)). dumps ++ (c.len-at.result, c.args.place) ∷ []) c.reserve.ensures.items in
    (lawful_action areas areas Finish old c.push.new.self.items refl c.self.invariant.0 unclosed (omega arith) tt tt c.in_ok-push.ensures.items, dumps_grow areas.results old c.push.new.self.items c.self.inside.dumps.items c.push_reserved.new.self.items c.len-at.result c.args.place c.self.invariant.1 (omega arith) (omega arith) c.in_ok-push.ensures.items dumped, rising_grow areas.results old c.self.inside.dumps.items c.push_reserved.new.self.items c.len-at.result c.args.place c.self.invariant.1 c.self.invariant.2 (omega arith) dumped, notes_stay c.self.inside.fenced.items old (Finish ∷ []) c.push.new.self.items c.self.invariant.3 refl c.in_ok-push.ensures.items)
