use Rattle.std.proofs.Common.{ap, sym, ◌∙◌, arith}
use Rattle.std.specs.Prelude.{slice_get}
use Rattle.gpu_plan.specs.Plans.{PlanData}
use Rattle.stream_state.specs.State.{facts_of}
use Rattle.gpu_journal.specs.Facts.{put_in}
use Rattle.gpu_journal.proofs.Following.{plan_here}
use Rattle.journal_verify.proofs.judge.Judge.facts.Goals as goal

pub returns-clause-facts : goal.returns-clause-facts
returns-clause-facts c =
    let plan = sym (plan_here c.args.plans.now c.args.s c.plan-plan.result.now (omega (arith, c.requires.known.0)) c.plan-plan.ensures) in
    let areas = c.areas.ensures.value ∙ ap (λ (plan : PlanData). plan.areas) plan in
    let actions = c.actions.ensures.value ∙ ap (λ (plan : PlanData). plan.actions) plan in
    let put = c.put_at-put.ensures ∙ (λ i. put_in (slice_get (actions i) (c.flush.ensures i))) in
    c.facts.ensures.facts ∙ (λ i. facts_of (areas i) (put i) (c.state.ensures i))
