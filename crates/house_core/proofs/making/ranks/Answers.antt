use Rattle.std.proofs.Common.{◌≡◌, ◌++◌, List, ℕ, [], ◌∷◌, take, map, slice_get, Some, ap, sym, ◌∙◌, arith}
use Rattle.std.proofs.lemmas.List.{map_more}
use Rattle.std.proofs.lemmas.Option.{get_or_from_slice_get, slice_get_within}
use Rattle.gpu_plan.specs.Plans.{PlanData}
use Rattle.gpu_journal.specs.Serial.{rank}
use Rattle.house_core.proofs.making.ranks.Goals as goal

pub loop-done-preserved : goal.loop-done-preserved
loop-done-preserved c =
    let plans = c.args.plans.now.plans in
    let k = c.loop-done.done in
    let plan = c.plan.result.now in
    let there : slice_get plans k ≡ Some plan = ap (slice_get plans) (omega arith) ∙ c.plan.ensures in
    let new : c.rank.result ≡ rank plan.priority = c.rank.ensures ∙ ap rank c.priority.ensures in
    let here = ap (λ (x : PlanData). rank x.priority) (get_or_from_slice_get plans k plan plan there) in
    let front : List ℕ = map (λ (x : PlanData). rank x.priority) (take k plans) in
    c.in_ok-push.ensures.items ∙ ap (λ (row : List ℕ). row ++ c.rank.result ∷ []) c.loop-done.invariant ∙ ap (λ (n : ℕ). front ++ n ∷ []) (new ∙ sym here)
    ∙ sym (map_more (λ (x : PlanData). rank x.priority) plans k plan (slice_get_within plans k plan there))
