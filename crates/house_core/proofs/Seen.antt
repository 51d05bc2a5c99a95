-- The parts of a core, and its streams as contracts see them.
use Rattle.std.proofs.Common.{◌≡◌, ℕ, length, sym, subst}
use Rattle.sync_core.specs.Standing.{IsKnown}
use Rattle.house_core.specs.declared.core_of.Core.TheInside.{Inside}
use Rattle.house_core.specs.Core.{CoreData, IsOfPlans}
use Rattle.house_core.specs.Desks.{RunData}
use Rattle.house_core.specs.Invariant.{Parts, CoreInvariant, seen}
use Rattle.house_core.proofs.Again.{Place, place_of}

-- all that a core keeps
abbrev pub parts_of : Inside → Parts
parts_of core = record { plans = core.plans; past = core.journal.events; spare = core.journal.spare; owed = core.owed; sync = core.scene.sync; seats = core.scheduler; images = core.scene.images; desks = core.desks.items }

-- a stream of the plans, as contracts see them, has its place
pub place_seen : (c : Parts) (v : CoreData) (s : ℕ) → seen c ≡ v → CoreInvariant c → IsKnown (length v.plans.plans) s → Place c s
place_seen c v s was invariant known = place_of c s invariant (subst (λ (v : CoreData). IsKnown (length v.plans.plans) s) (sym was) known)

-- and so has the stream of a run
pub place_of_run : (c : Parts) (v : CoreData) (s : ℕ) (run : RunData) → seen c ≡ v → CoreInvariant c → s ≡ run.stream → IsOfPlans v.plans run → Place c s
place_of_run c v s run was invariant stream plan = place_seen c v s was invariant (subst (IsKnown (length v.plans.plans)) (sym stream) plan.known)
