use Rattle.std.proofs.Common.{List, sym, subst}
use Rattle.gpu_plan.specs.Named.{names_in, AreLawfulNames}
use Rattle.gpu_plan.specs.Plans.{PlanData, IsLawfulScript}
use Rattle.gpu_plan.specs.Renumbered.{renumbered_plan}
use Rattle.gpu_plan.proofs.Renumbered.{written_back, lawful_script, names_same}
use Rattle.gpu_plan.proofs.renumbering.whole.Goals as goal

pub of-requires-2-clause-lawful : goal.of-requires-2-clause-lawful
of-requires-2-clause-lawful c =
    let numbers = c.deref-2.result.now in
    let old = c.in_ok-plans.plans.items in
    let back = written_back (renumbered_plan numbers) c.in_ok-plans.plans.len old c.deref_mut.result.now c.renumber_plans.new.plans c.deref_mut.ensures.value c.deref_mut.ensures.len c.renumber_plans.ensures in
    subst IsLawfulScript (sym back) (lawful_script numbers old c.in_ok-plans.ensures.lawful)

pub of-requires-2-clause-named : goal.of-requires-2-clause-named
of-requires-2-clause-named c =
    let numbers = c.deref-2.result.now in
    let old = c.in_ok-plans.plans.items in
    let back = written_back (renumbered_plan numbers) c.in_ok-plans.plans.len old c.deref_mut.result.now c.renumber_plans.new.plans c.deref_mut.ensures.value c.deref_mut.ensures.len c.renumber_plans.ensures in
    let named = subst (λ (plans : List PlanData). AreLawfulNames c.args.version (names_in plans)) (sym c.in_ok-plans.ensures.streams) c.requires.named in
    subst (λ (plans : List PlanData). AreLawfulNames c.args.version (names_in plans)) (sym back) (subst (AreLawfulNames c.args.version) (sym (names_same numbers old)) named)
