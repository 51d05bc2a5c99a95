-- The areas of what stands at a stream's place among the plans are the stream's.
use Rattle.std.proofs.Common.{◌≡◌, ℕ, ◌-◌, length, Some, sym, ap, ◌∙◌, arith}
use Rattle.std.specs.Prelude.{slice_get}
use Rattle.gpu_cmd.specs.declared.areas.Areas.{Areas}
use Rattle.gpu_plan.specs.Plans.{PlanData, PlansData, plan_of}
use Rattle.sync_core.specs.Standing.{IsKnown}
use Rattle.gpu_journal.proofs.Following.{plan_here}

pub areas_here : (p : PlansData) (s : ℕ) (x : PlanData) (areas : Areas) → IsKnown (length p.plans) s → slice_get p.plans (s - 1) ≡ Some x → areas ≡ x.areas → areas ≡ (plan_of p s).areas
areas_here p s x areas known at is = is ∙ ap (λ (x : PlanData). x.areas) (sym (plan_here p s x (omega (arith, known.0)) at))
