-- Sums over the streams of a script.
use Rattle.std.proofs.Common.{◌≡◌, ℕ, ◌+◌, ◌-◌, ◌<◌, List, Some, length, take, ap, subst, sym, ◌∙◌, arith}
use Rattle.std.specs.List.{slice_get, sum_by}
use Rattle.std.proofs.lemmas.List.Sums.{sum_by_more}
use Rattle.std.proofs.lemmas.Option.{get_or_from_slice_get}
use Rattle.gpu_plan.specs.Plans.{PlanData}

-- the sum over the first streams and one more, which is counted from 1
pub total_more : (f : PlanData → ℕ) (plans : List PlanData) (i : ℕ) (plan : PlanData) → i < length plans → slice_get plans (i + 1 - 1) ≡ Some plan → sum_by f (take i plans) + f plan ≡ sum_by f (take (i + 1) plans)
total_more f plans i plan lt here =
    let place : i + 1 - 1 ≡ i = omega arith in
    let there : slice_get plans i ≡ Some plan = subst (λ (k : ℕ). slice_get plans k ≡ Some plan) place here in
    sym (sum_by_more f plans i plan lt ∙ ap (λ (x : PlanData). sum_by f (take i plans) + f x) (get_or_from_slice_get plans i plan plan there))
