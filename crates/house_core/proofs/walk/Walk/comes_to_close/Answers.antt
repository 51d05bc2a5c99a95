use Rattle.std.proofs.Common.{◌≡◌, ◌+◌, ◌<◌, [], ◌∷◌, Some, List, ℕ, length, get_or, refl, sym, ap, ◌∙◌, arith}
use Rattle.std.specs.Prelude.{slice_get}
use Rattle.std.proofs.lemmas.Option.{slice_get_read}
use Rattle.gpu_plan.specs.declared.plan.Action.{Action}
use Rattle.gpu_plan.proofs.Passing.{flush_count_most, bound_within}
use Rattle.house_core.proofs.Walking.{few_behind, walked_more, closes_here, never_closes}
use Rattle.house_core.proofs.walk.Walk.comes_to_close.Goals as goal

-- what is read at a position is the action there
action_at : (actions : List Action) (at : ℕ) (action : Action) → at < length actions → action ≡ get_or actions at action → slice_get actions at ≡ Some action
action_at actions at action lt is = slice_get_read actions (length actions) at action refl lt is

pub overflow_cast-self : goal.overflow_cast-self
overflow_cast-self c =
    let most = bound_within c.args.actions.now c.args.finished (c.args.greatest ∷ []) in
    let below = c.loop-self.invariant.below in
    let few = c.requires.few in
    omega (arith, most, below, few)

pub returns-then-not-passes-clause-close : goal.returns-then-not-passes-clause-close
returns-then-not-passes-clause-close c =
    let at = action_at c.args.actions.now c.loop-self.self.upto c.index-actions-self.result c.loop-self-test.true c.index-actions-self.is in
    closes_here c.args.actions.now c.args.finished c.args.greatest c.loop-self.self c.loop-self.invariant c.index-actions-self.result at c.is_close.result (sym c.passes.ensures ∙ c.if-not-passes.true) c.is_close.ensures

pub overflow_add-self : goal.overflow_add-self
overflow_add-self c =
    let less = few_behind c.args.actions.now c.args.finished c.args.greatest c.loop-self.self c.loop-self.invariant in
    let more = flush_count_most c.index-actions-self.result in
    let counted = c.flush_count.ensures in
    let few = c.requires.few in
    let low = c.loop-self-test.true in
    omega (arith, less, more, counted, few, low)

pub loop-self-preserved : goal.loop-self-preserved
loop-self-preserved c =
    let walk = c.loop-self.self in
    let at = action_at c.args.actions.now walk.upto c.index-actions-self.result c.loop-self-test.true c.index-actions-self.is in
    walked_more c.args.actions.now c.args.finished c.args.greatest walk c.loop-self.invariant c.index-actions-self.result at _ (sym c.passes.ensures ∙ c.if-not-passes.false) refl (ap (λ n. walk.behind + n) c.flush_count.ensures)

pub returns-clause-close : goal.returns-clause-close
returns-clause-close c = never_closes c.args.actions.now c.args.finished c.args.greatest c.loop-self.self c.loop-self.invariant (let far = c.loop-self-test.false in omega arith)
