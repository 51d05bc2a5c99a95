use Rattle.std.proofs.Common.{◌≡◌, ◌+◌, suc, List, [], ◌∷◌, inl, inr, length, length-append, sym, ap, subst, ◌∙◌, arith}
use Rattle.std.specs.Prelude.{slice_get}
use Rattle.gpu_plan.specs.Plans.{PlanData, plan_of}
use Rattle.gpu_journal.proofs.Following.{plan_here}
use Rattle.journal_verify.specs.Kept.{WatchData}
use Rattle.journal_verify.specs.Follows.{IsFirst}
use Rattle.journal_verify.proofs.Turning.{get_push}
use Rattle.journal_verify.proofs.making.first_watches.Goals as goal

pub loop-index-preserved : goal.loop-index-preserved
loop-index-preserved c =
    let p = c.args.plans.now in
    let index = c.loop-index.index in
    let before = c.loop-index.watches.items in
    let watch : WatchData = c.in_ok-watch.watch in
    let pushed = c.in_ok-push.ensures.items in
    let plan = plan_here p (index + 1) c.plan.result.now (omega arith) c.plan.ensures in
    let first : IsFirst (plan_of p (index + 1)) watch = subst (λ (plan : PlanData). IsFirst plan watch) (sym plan) (record { counts = c.in_ok-watch.ensures.counts; fits = c.in_ok-watch.ensures.watch }) in
    record {
      count = ap length pushed ∙ length-append before (watch ∷ []) ∙ ap (λ n. n + 1) c.loop-index.invariant.count;
      first = λ k w at. elim (get_push before k w watch (ap (λ (ws : List WatchData). slice_get ws k) (sym pushed) ∙ at)) [
        | inl here ↦ (
            let next : index + 1 ≡ suc k = omega (arith, here.0, c.loop-index.invariant.count) in
            subst (λ (w : WatchData). IsFirst (plan_of p (suc k)) w) (sym here.1) (subst (λ s. IsFirst (plan_of p s) watch) next first))
        | inr other ↦ c.loop-index.invariant.first k w other
      ];
    }
