use Rattle.std.proofs.Common.{◌∙◌, refl}
use Rattle.std.proofs.lemmas.List.Elements.{All-nil}
use Rattle.gpu_plan.specs.Plans.{IsDump}
use Rattle.gpu_plan.proofs.Lawful.{lawful_start}
use Rattle.gpu_plan.proofs.plan.Plan.start.Goals as goal

pub invariant_of-result : goal.invariant_of-result
invariant_of-result c =
    let areas = c.in_ok-areas.areas.value in
    (lawful_start areas c.args.ring c.new-2.result.items (c.in_ok-areas.ensures.ok ∙ c.ring_alone.ensures) c.requires.least c.requires.most c.new-2.ensures.items, rw c.new-4.ensures.items (All-nil (IsDump areas.results c.new-2.result.items)), rw c.new-4.ensures.items tt, rw (c.new-2.ensures.items, c.new-3.ensures.items) refl)
