use Rattle.std.proofs.Common.{map, get_or, Some, ap, sym, ◌∙◌, arith}
use Rattle.gpu_plan.specs.Renumbered.{renumbered_fence, renumbered_action}
use Rattle.gpu_plan.specs.Fencing.{fences_in}
use Rattle.gpu_plan.proofs.Partly.{partly, partly_goes, partly_done}
use Rattle.gpu_plan.proofs.Fencing.{rise_here, moved_here, moved_at}
use Rattle.gpu_plan.proofs.renumbering.renumber_actions.Goals as goal

pub renumber-requires-clause-rise : goal.renumber-requires-clause-rise
renumber-requires-clause-rise c = rise_here c.args.fenced.now (map (renumbered_action c.args.numbers.now) c.args.actions.now) (moved_here c.args.numbers.now c.args.fenced.now c.args.actions.now c.requires.noted)

pub renumber-requires-clause-noted : goal.renumber-requires-clause-noted
renumber-requires-clause-noted c =
    let numbers = c.args.numbers.now in
    let now = c.loop-action.actions in
    let action = c.action-item.result in
    let at = sym c.loop-action.invariant.at in
    moved_at numbers c.args.fenced.now c.args.actions.now now c.loop-action.place action c.requires.noted
    (c.loop-action.invariant.actions ∙ ap (λ n. partly (renumbered_action numbers) n c.args.actions.now) at) (omega arith) (c.action-item.is ∙ ap (λ n. get_or now n action) at)
    ∙ ap (λ a. map (renumbered_fence numbers) (fences_in (Some a))) c.action-item.is

pub loop-action-preserved : goal.loop-action-preserved
loop-action-preserved c = record {
  at = omega arith;
  actions = partly_goes (renumbered_action c.args.numbers.now) c.args.actions.now c.loop-action.actions c.loop-action.action-index c.action-item.result c.renumber.new.self c.loop-action.invariant.actions (omega arith) c.renumber.ensures;
}

pub returns : goal.returns
returns c = partly_done (renumbered_action c.args.numbers.now) c.args.actions.now c.loop-action.actions c.loop-action.action-index c.loop-action.invariant.actions (omega arith)
