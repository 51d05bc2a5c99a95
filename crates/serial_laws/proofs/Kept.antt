-- One more lawful plan.
use Rattle.std.proofs.Common.{◌≡◌, ◌≢◌, ℕ, zero, suc, ◌+◌, ◌-◌, ◌<◌, ◌⊎◌, inl, inr, List, [], ◌∷◌, Some, get_or, sym, subst, arith}
use Rattle.std.specs.Prelude.{slice_get}
use Rattle.gpu_plan.specs.Plans.{PlanData}
use Rattle.serial_laws.specs.Scripts.{IsScriptPlan, AreLawfulTo}
use Rattle.serial_laws.proofs.First.{nat_cases}

got : (xs : List PlanData) (k : ℕ) (x d : PlanData) → slice_get xs k ≡ Some x → get_or xs k d ≡ x
got [] k x d e = absurd (cc)
got (y ∷ xs) zero x d e = let is : y ≡ x = cc in is
got (y ∷ xs) (suc k) x d e = got xs k x d e

pub none_lawful : (plans : List PlanData) → AreLawfulTo 0 plans
none_lawful plans = λ k d lt. absurd (omega arith)

pub one_more : (plans : List PlanData) (n : ℕ) (plan : PlanData) → AreLawfulTo n plans → slice_get plans (n + 1 - 1) ≡ Some plan → IsScriptPlan plan → AreLawfulTo (n + 1) plans
one_more plans n plan all e is = λ k d lt. by k d lt (nat_cases k n)
  where
    here : (k : ℕ) (d : PlanData) → k ≡ n → IsScriptPlan (get_or plans k d)
    here k d same =
        let at : n + 1 - 1 ≡ k = omega arith in
        subst IsScriptPlan (sym (got plans k plan d (subst (λ i. slice_get plans i ≡ Some plan) at e))) is

    by : (k : ℕ) (d : PlanData) → k < n + 1 → (k ≡ n) ⊎ (k ≢ n) → IsScriptPlan (get_or plans k d)
    by k d lt (inl same) = here k d same
    by k d lt (inr other) = all k d (omega arith)
