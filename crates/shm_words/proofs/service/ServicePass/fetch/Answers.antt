use Rattle.std.proofs.Common.{◌≡◌, ◌+◌, ◌<◌, ◌^◌, sym, ap, ◌∙◌, subst, arith, rules}
use Rattle.atomic_table.specs.Seated.{TableId}
use Rattle.gpu_cmd.specs.Lawful.{places_of}
use Rattle.gpu_plan.specs.Plans.{PlanData}
use Rattle.gpu_plan.proofs.Holding.{may_hold_fits}
use Rattle.shm_words.specs.Views.{service_of}
use Rattle.shm_words.specs.Seen.{ServiceData}
use Rattle.shm_words.proofs.ServiceSteps.{fetches_one}
use Rattle.shm_words.proofs.service.ServicePass.fetch.Goals as goal

pub load-found-requires : goal.load-found-requires
load-found-requires c =
    let seat = c.self.inside.seat in
    let kept = c.self.invariant in
    let same : seat.table_id ≡ c.words.inside.table.shared.table_id = ap (λ (d : ServiceData). d.table) c.self.view_is ∙ sym c.requires.table ∙ sym c.words.view_is in
    let plan : (service_of seat.me.0).plan ≡ c.args.self.now.plan = ap (λ (d : ServiceData). d.plan) c.self.view_is in
    let within : c.args.place < places_of (service_of seat.me.0).plan.areas = subst (λ (q : PlanData). c.args.place < places_of q.areas) (sym plan) c.requires.place in
    let wide : c.words.inside.table.shared.table_id.words ≡ 3 + places_of (service_of seat.me.0).plan.areas = ap (λ (t : TableId). t.words) (sym same) ∙ kept.wide in
    (same, omega arith, fetches_one _ _ _ seat.me c.args.place kept.is within)

pub overflow_cast-result : goal.overflow_cast-result
overflow_cast-result c =
    let service = service_of c.self.inside.seat.me.0 in
    let small : c.load-found.result < 2 ^ 32 = may_hold_fits service.plan.actions (places_of service.plan.areas) _ _ _ c.load-found.result c.self.invariant.lawful.within c.load-found.ensures.2.1 in
    search (rules, small)
