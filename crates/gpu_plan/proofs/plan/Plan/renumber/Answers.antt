use Rattle.std.proofs.Common.{map, ap, sym, ◌∙◌}
use Rattle.gpu_plan.specs.Renumbered.{renumbered_note, renumbered_action}
use Rattle.gpu_plan.specs.Fencing.{fenced_from}
use Rattle.gpu_plan.proofs.Renumbered.{written_back, lawful_plan}
use Rattle.gpu_plan.proofs.plan.Plan.renumber.Goals as goal

pub renumber_actions-requires-clause-noted : goal.renumber_actions-requires-clause-noted
renumber_actions-requires-clause-noted c =
    let numbers = c.args.numbers.now in
    let noted = written_back (renumbered_note numbers) c.self.inside.fenced.len c.self.inside.fenced.items c.deref_mut.result.now c.renumber_fenced.new.fenced c.deref_mut.ensures.value c.deref_mut.ensures.len c.renumber_fenced.ensures in
    c.deref.ensures.value ∙ noted ∙ ap (map (renumbered_note numbers)) c.self.invariant.3 ∙ ap (λ actions. map (renumbered_note numbers) (fenced_from 0 actions)) (sym c.deref_mut-2.ensures.value)

pub invariant_of-self : goal.invariant_of-self
invariant_of-self c =
    let numbers = c.args.numbers.now in
    let old = c.self.inside.actions.items in
    let notes = c.self.inside.fenced.items in
    let noted = written_back (renumbered_note numbers) c.self.inside.fenced.len notes c.deref_mut.result.now c.renumber_fenced.new.fenced c.deref_mut.ensures.value c.deref_mut.ensures.len c.renumber_fenced.ensures in
    let back = written_back (renumbered_action numbers) c.self.inside.actions.len old c.deref_mut-2.result.now c.renumber_actions.new.actions c.deref_mut-2.ensures.value c.deref_mut-2.ensures.len c.renumber_actions.ensures in
    lawful_plan numbers c.self.inside.areas.value old _ c.self.inside.dumps.items notes _ back noted c.self.invariant
