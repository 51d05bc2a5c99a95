use Rattle.std.proofs.Common.{◌≡◌, ◌+◌, suc, List, [], ◌∷◌, inl, inr, length, length-append, sym, ap, subst, ◌∙◌, arith}
use Rattle.std.specs.Prelude.{slice_get}
use Rattle.gpu_plan.specs.Plans.{PlanData, plan_of}
use Rattle.gpu_journal.proofs.Following.{plan_here}
use Rattle.journal_verify.specs.Dumped.{DumpedData, IsUntouched}
use Rattle.journal_verify.proofs.Turning.{get_push}
use Rattle.journal_verify.proofs.followed.first_dumped.Goals as goal

pub loop-index-preserved : goal.loop-index-preserved
loop-index-preserved c =
    let p = c.args.plans.now in
    let index = c.loop-index.index in
    let before = c.loop-index.all.items in
    let own : DumpedData = c.in_ok-dumped.dumped in
    let pushed = c.in_ok-push.ensures.items in
    let plan = plan_here p (index + 1) c.plan.result.now (omega arith) c.plan.ensures in
    let new : IsUntouched (plan_of p (index + 1)) own = subst (λ (plan : PlanData). IsUntouched plan own) (sym plan) c.in_ok-dumped.ensures in
    record {
      count = ap length pushed ∙ length-append before (own ∷ []) ∙ ap (λ n. n + 1) c.loop-index.invariant.count;
      each = λ k d at. elim (get_push before k d own (ap (λ (ds : List DumpedData). slice_get ds k) (sym pushed) ∙ at)) [
        | inl here ↦ (
            let next : index + 1 ≡ suc k = omega (arith, here.0, c.loop-index.invariant.count) in
            subst (λ (d : DumpedData). IsUntouched (plan_of p (suc k)) d) (sym here.1) (subst (λ s. IsUntouched (plan_of p s) own) next new))
        | inr other ↦ c.loop-index.invariant.each k d other
      ];
    }
