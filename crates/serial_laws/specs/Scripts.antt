-- What every script that was read allows its streams.
use Rattle.std.specs.Prelude.{ℕ, ◌<◌, List, slice_index_or}
use Rattle.std.specs.List.{All}
use Rattle.gpu_plan.specs.Plans.{PlansData, PlanData, IsLawfulPlan, IsLawfulScript, IsDump}
use Rattle.gpu_plan.specs.Named.{names_in, IsVersion, AreLawfulNames}

-- the plan is one that a script may have
abbrev pub IsScriptPlan : PlanData → Type 0
IsScriptPlan plan = IsLawfulPlan plan.areas plan.actions × All (IsDump plan.areas.results plan.actions) plan.dumps

-- the first n plans are
abbrev pub AreLawfulTo : ℕ → List PlanData → Type 0
AreLawfulTo n plans = (k : ℕ) (other : PlanData) → k < n → IsScriptPlan (slice_index_or plans k other)

-- each plan is, and so are all of them together, with their names; the version is 1 or 2
pub record AreLawfulPlans (p : PlansData) : Type 0 where
  pub together : IsLawfulScript p.plans
  pub each : All IsScriptPlan p.plans
  pub named : AreLawfulNames p.version (names_in p.plans)
  pub known : IsVersion p.version
