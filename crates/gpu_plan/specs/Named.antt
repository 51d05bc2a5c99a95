-- How the streams of a script are named.
use Rattle.std.specs.Prelude.{◌≡◌, ◌⊎◌, ℕ, ◌+◌, ◌≤◌, List, Some, map, slice_get}
use Rattle.std.specs.List.{All, IsDistinct}
use Rattle.gpu_cmd.specs.declared.name.Name.{Name}
use Rattle.script_lines.specs.Names.{is_name}
use Rattle.gpu_plan.specs.Plans.{PlanData}
use Rattle.gpu_plan.specs.declared.adding.TheConstants.{LAST_NAMESPACE}

-- the names of the streams, in their order
abbrev pub names_in : List PlanData → List Name
names_in plans = map (λ plan. plan.name) plans

-- stream S has the name (0, S)
abbrev pub AreNumbered : List Name → Type 0
AreNumbered names = (k : ℕ) (name : Name) → slice_get names k ≡ Some name → name ≡ record { namespace = 0; id = k + 1 }

-- a script is of version 1 or 2
abbrev pub IsVersion : ℕ → Type 0
IsVersion version = (version ≡ 1) ⊎ (version ≡ 2)

-- the namespace of a name is at most 255
abbrev pub HasSmallSpace : Name → Type 0
HasSmallSpace name = name.namespace ≤ LAST_NAMESPACE

-- no two streams have the same name, in version 1 the names are the numbers, and each namespace is at most 255
pub record AreLawfulNames (version : ℕ) (names : List Name) : Type 0 where
  pub apart : IsDistinct is_name names
  pub numbered : version ≡ 1 → AreNumbered names
  pub spaced : All HasSmallSpace names
