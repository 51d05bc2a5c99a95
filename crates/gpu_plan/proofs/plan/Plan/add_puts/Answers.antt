use Rattle.std.proofs.Common.{◌≡◌, false, length, map, ap, arith}
use Rattle.gpu_cmd.specs.Lawful.{places_of}
use Rattle.script_lines.specs.Text.{words_of}
use Rattle.script_lines.specs.Numbers.{value_of}
use Rattle.gpu_plan.specs.Adding.{puts}
use Rattle.gpu_plan.specs.Plans.{PlanData, is_closed}
use Rattle.gpu_plan.proofs.Lawful.{few_places, lawful_puts}
use Rattle.gpu_plan.proofs.Dumps.{dumps_stay}
use Rattle.gpu_plan.proofs.Fencing.{notes_stay, puts_unfenced}
use Rattle.gpu_plan.proofs.plan.Plan.add_puts.Goals as goal

pub push_puts-requires-clause-small : goal.push_puts-requires-clause-small
push_puts-requires-clause-small c =
    let places = ap (λ (plan : PlanData). places_of plan.areas) c.self.view_is in
    let few = few_places c.self.inside.areas.value c.self.inside.actions.items c.self.invariant.0 in
    omega arith

pub invariant_of-self : goal.invariant_of-self
invariant_of-self c =
    let closed = ap (λ (plan : PlanData). is_closed plan.actions) c.self.view_is in
    let count = ap (λ (plan : PlanData). length plan.actions) c.self.view_is in
    let places = ap (λ (plan : PlanData). places_of plan.areas) c.self.view_is in
    let old = c.self.inside.actions.items in
    let new = c.push_puts.new.actions.items in
    let unclosed : is_closed old ≡ false = cc in
    let areas = c.self.inside.areas.value in
    let words = words_of c.args.values.rest.now in
    let more = puts c.args.place (map value_of words) in
    let within = rw c.in-Ok-Some.field-0-is at c.in-Ok-Some.ensures.within in
    let at = rw c.in-Ok-Some.field-0-is at c.in-Ok-Some.ensures.at in
    let added = rw c.in-Ok-Some.field-0-is at c.in-Ok-Some.ensures.put in
    (lawful_puts areas c.args.place words old new c.self.invariant.0 unclosed (omega arith) (omega arith) added, dumps_stay areas.results old more new c.self.inside.dumps.items c.self.invariant.1 added, c.self.invariant.2, notes_stay c.self.inside.fenced.items old more new c.self.invariant.3 (puts_unfenced (length old) c.args.place (map value_of words)) added)
