-- How many events a legal history of lawful plans has at most.
use Rattle.std.proofs.Common.{◌+◌, ◌*◌, ◌≤◌, List, [], ◌∷◌, length, arith}
use Rattle.std.specs.List.{All, count_by}
use Rattle.std.specs.Prelude.{sum_by}
use Rattle.std.proofs.Math.Nat.{mul-le-mul_left}
use Rattle.std.proofs.lemmas.List.Elements.{All-head, All-tail}
use Rattle.std.proofs.lemmas.List.Sums.{sum_by-cons}
use Rattle.gpu_plan.specs.Passes.{flushes}
use Rattle.gpu_plan.specs.Plans.{PlanData, is_flush, flushes_in}
use Rattle.gpu_plan.proofs.Counts.{flushes_counted}
use Rattle.gpu_journal.specs.Serial.{most_of}
use Rattle.serial_laws.specs.Scripts.{IsScriptPlan}
use Rattle.serial_laws.specs.Laws.{MostEventsAreFew}

-- of one plan
plan_few : (plan : PlanData) → IsScriptPlan plan → most_of plan ≤ count_by is_flush plan.actions * 4098 + 1
plan_few plan is =
    let ring = is.0.laid_out.ring_most in
    let same = flushes_counted plan.actions in
    let least : flushes plan.actions * (plan.areas.ring + 2) ≤ flushes plan.actions * 4098 = mul-le-mul_left (flushes plan.actions) (omega (arith, ring)) in
    omega (arith, least, same)

plans_few : (plans : List PlanData) → All IsScriptPlan plans → sum_by most_of plans ≤ flushes_in plans * 4098 + length plans
plans_few [] all = omega arith
plans_few (plan ∷ plans) all =
    let rest = plans_few plans (All-tail IsScriptPlan plan plans all) in
    let here = plan_few plan (All-head IsScriptPlan plan plans all) in
    let most = sum_by-cons most_of plan plans in
    let count = sum_by-cons (λ (x : PlanData). count_by is_flush x.actions) plan plans in
    omega (arith, rest, here, most, count)

pub most_events_are_few : MostEventsAreFew
most_events_are_few p lawful =
    let few = plans_few p.plans lawful.each in
    let flushed = lawful.together.flushes in
    let streams = lawful.together.streams in
    omega (arith, few, flushed, streams)
