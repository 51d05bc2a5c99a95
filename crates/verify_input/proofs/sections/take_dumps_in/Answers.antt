use Rattle.verify_input.proofs.Names.{◌-◌, List, map, sym, ap, subst, ◌∙◌, arith, PlanData, plan_here, Due, Dump, Judges, past_of}
use Rattle.verify_input.proofs.Dues.{taking_none, judged_all}
use Rattle.verify_input.proofs.Losing.{dumps_lost, dumps_told}
use Rattle.verify_input.proofs.Histories.{ends_kept, end_there}
use Rattle.verify_input.proofs.sections.take_dumps_in.Goals as goal

pub bounds-history-index : goal.bounds-history-index
bounds-history-index c = omega (arith, ends_kept c.args.history c.requires.history, c.requires.known.0, c.requires.known.1)

pub returns-then-is_lost : goal.returns-then-is_lost
returns-then-is_lost c =
    let s = c.args.stream in
    let at = end_there c.args.history c.requires.history (s - 1) s _ (omega (arith, c.requires.known.0, c.requires.known.1)) (omega (arith, c.requires.known.0)) in
    judged_all (dumps_lost c.args.history.plans.now (past_of c.args.history) s _ c.requires.history.whole.legal at (sym c.is_lost.ensures ∙ c.if-is_lost.true)) taking_none

pub take_dumps_of-requires : goal.take_dumps_of-requires
take_dumps_of-requires c = record {
  history = c.requires.history;
  known = c.requires.known;
  plan = plan_here c.args.history.plans.now c.args.stream c.plan-plan.result.now c.requires.known.0 c.plan-plan.ensures;
}

pub returns : goal.returns
returns c =
    let p = c.args.history.plans.now in
    let s = c.args.stream in
    let at = end_there c.args.history c.requires.history (s - 1) s _ (omega (arith, c.requires.known.0, c.requires.known.1)) (omega (arith, c.requires.known.0)) in
    let all = dumps_told p (past_of c.args.history) s _ c.requires.history.whole.legal at (sym c.is_lost.ensures ∙ c.if-is_lost.false) in
    let own = plan_here p s c.plan-plan.result.now c.requires.known.0 c.plan-plan.ensures in
    subst (λ (dues : List Due). Judges p (past_of c.args.history) dues c.args.rest.now c.take_dumps_of.new.rest c.take_dumps_of.result)
    (sym (all ∙ ap (λ (plan : PlanData). map (λ dump. Dump s dump) plan.dumps) own)) c.take_dumps_of.ensures
