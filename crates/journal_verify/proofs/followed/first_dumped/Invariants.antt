use Rattle.std.proofs.Common.{◌≡◌, ℕ, suc, length, Some}
use Rattle.std.specs.Prelude.{slice_get}
use Rattle.gpu_plan.specs.Plans.{plan_of}
use Rattle.journal_verify.specs.Dumped.{DumpedData, IsUntouched}
use Rattle.journal_verify.proofs.followed.first_dumped.Given as goal

abbrev pub invariant-loop-index : goal.invariant-loop-index
invariant-loop-index l = record {
  count : length l.all.items ≡ l.index;
  each : (k : ℕ) (dumped : DumpedData) → slice_get l.all.items k ≡ Some dumped → IsUntouched (plan_of l.plans (suc k)) dumped;
}
