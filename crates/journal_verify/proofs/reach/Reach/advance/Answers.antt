use Rattle.std.proofs.Common.{◌≡◌, ◌<◌, Some, List, [], ◌∷◌, length, get_or, refl, sym, ap, subst, ◌∙◌, arith, ℕ}
use Rattle.std.specs.Prelude.{slice_get}
use Rattle.std.specs.List.{All}
use Rattle.std.proofs.lemmas.List.Elements.{All-get_or}
use Rattle.std.proofs.lemmas.Option.{slice_get_read}
use Rattle.gpu_plan.specs.declared.plan.Action.{Action}
use Rattle.gpu_plan.specs.Plans.{IsWithin}
use Rattle.gpu_plan.specs.Passes.{passes_behind}
use Rattle.journal_verify.specs.Reached.{Reached}
use Rattle.journal_verify.proofs.Reaching.{reached_more, few_behind, bound_behind_passed, bound_at_stop, bound_at_end}
use Rattle.journal_verify.proofs.reach.Reach.advance.Goals as goal

-- what is read at a position is the action there
action_at : (actions : List Action) (at upto : ℕ) (action : Action) → at ≡ upto → at < length actions → action ≡ get_or actions at action → slice_get actions upto ≡ Some action
action_at actions at upto action here lt is = ap (slice_get actions) (sym here) ∙ slice_get_read actions (length actions) at action refl lt is

-- what is read at a position has a word
action_within : (actions : List Action) (at upto places : ℕ) (action : Action) → at ≡ upto → at < length actions → action ≡ get_or actions at action → All (IsWithin places) actions → IsWithin places action
action_within actions at upto places action here lt is all = subst (IsWithin places) (sym is) (All-get_or (IsWithin places) actions at action lt all)

pub returns-then-not-passes-clause-upto : goal.returns-then-not-passes-clause-upto
returns-then-not-passes-clause-upto c =
    let actions = c.args.actions.now in
    let reached = c.loop-self.self in
    let action = c.index-actions-self.result in
    let tokens = c.args.token ∷ [] in
    let at = action_at actions c.self.inside.upto reached.upto action (ap (λ (r : Reached). r.upto) c.self.view_is) c.loop-self-test.true c.index-actions-self.is in
    let stop = ap (λ n. passes_behind n c.args.finished tokens action) (ap (λ (r : Reached). r.behind) (sym c.self.view_is)) ∙ sym c.passes.ensures ∙ c.if-not-passes.true in
    bound_at_stop actions c.args.done reached c.args.finished tokens action at c.loop-self.invariant.reached c.loop-self.invariant.below stop

pub take_up-requires-clause-fewer : goal.take_up-requires-clause-fewer
take_up-requires-clause-fewer c = few_behind c.args.actions.now c.args.done c.loop-self.self c.loop-self.invariant.reached

pub take_up-requires-clause-there : goal.take_up-requires-clause-there
take_up-requires-clause-there c = action_within c.args.actions.now c.self.inside.upto c.loop-self.self.upto (length c.loop-self.self.ends) c.index-actions-self.result (ap (λ (r : Reached). r.upto) c.self.view_is) c.loop-self-test.true c.index-actions-self.is c.loop-self.invariant.reached.ended

pub take_up-requires-clause-valued : goal.take_up-requires-clause-valued
take_up-requires-clause-valued c = action_within c.args.actions.now c.self.inside.upto c.loop-self.self.upto (length c.loop-self.self.values) c.index-actions-self.result (ap (λ (r : Reached). r.upto) c.self.view_is) c.loop-self-test.true c.index-actions-self.is c.loop-self.invariant.reached.valued

pub loop-self-preserved : goal.loop-self-preserved
loop-self-preserved c =
    let actions = c.args.actions.now in
    let reached = c.loop-self.self in
    let action = c.index-actions-self.result in
    let tokens = c.args.token ∷ [] in
    let at = action_at actions c.self.inside.upto reached.upto action (ap (λ (r : Reached). r.upto) c.self.view_is) c.loop-self-test.true c.index-actions-self.is in
    let here = ap (λ (r : Reached). r.upto) c.self.view_is in
    let lt = c.loop-self-test.true in
    let pass = ap (λ n. passes_behind n c.args.finished tokens action) (ap (λ (r : Reached). r.behind) (sym c.self.view_is)) ∙ sym c.passes.ensures ∙ c.if-not-passes.false in
    let further = bound_behind_passed actions c.args.done reached c.args.finished tokens action at c.loop-self.invariant.reached c.loop-self.invariant.below pass in
    let next = c.in_ok-take_up.ensures.upto in
    record {
      below = omega (arith, further, next);
      reached = reached_more actions c.args.done action reached c.take_up.new.self at (action_within c.args.actions.now c.self.inside.upto c.loop-self.self.upto (length c.loop-self.self.values) action here lt c.index-actions-self.is c.loop-self.invariant.reached.valued) (action_within c.args.actions.now c.self.inside.upto c.loop-self.self.upto (length c.loop-self.self.ends) action here lt c.index-actions-self.is c.loop-self.invariant.reached.ended) c.loop-self.invariant.reached c.in_ok-take_up.ensures;
    }

pub returns-clause-upto : goal.returns-clause-upto
returns-clause-upto c =
    let here : c.self.inside.upto ≡ c.loop-self.self.upto = ap (λ (r : Reached). r.upto) c.self.view_is in
    let far = c.loop-self-test.false in
    bound_at_end c.args.actions.now c.loop-self.self c.args.finished (c.args.token ∷ []) (omega arith) c.loop-self.invariant.below
