use Rattle.std.proofs.Common.{◌≡◌, ◌<◌, ℕ, suc, true, Some}
use Rattle.std.specs.Prelude.{slice_get}
use Rattle.gpu_plan.specs.Plans.{plan_of}
use Rattle.journal_verify.specs.Kept.{WatchData}
use Rattle.journal_verify.specs.Faults.{is_settled}
use Rattle.journal_verify.proofs.judge.Judge.is_complete.Given as goal

abbrev pub invariant-loop-index : goal.invariant-loop-index
invariant-loop-index l = (k : ℕ) (watch : WatchData) → k < l.index → slice_get l.self.watches k ≡ Some watch → is_settled (plan_of l.plans (suc k)) watch ≡ true
