-- The record of waits, and what the waits of a house are known to be.
use Rattle.std.specs.Prelude.{◌≡◌, ℕ, ◌<◌, List, length, All, Contains}
use Rattle.sync_core.specs.declared.wait.Wait.{Wait}
use Rattle.sync_core.specs.Standing.{first_order}
use Rattle.sync_core.specs.Pending.{is_blocked}
use Rattle.sync_core.specs.Laws.{Rank, IsPath}
use Rattle.gpu_plan.specs.Plans.{PlansData}
use Rattle.gpu_journal.specs.declared.event.Event.{Event}
use Rattle.gpu_journal.specs.Waits.{sync_of, left_of, pending_in}
use Rattle.gpu_house.specs.declared.answers.WaitsKept.{WaitsKept}

-- this is what a history says of waits: how many are pending, the first unprocessed number of stream s, and whether a wait of that
-- is pending
pub record AreWaitsOf (p : PlansData) (h : List Event) (s : ℕ) (kept : WaitsKept) : Type 0 where
  pub pending : kept.pending ≡ length (pending_in p h)
  pub front : kept.front ≡ first_order (left_of p h s)
  pub blocked : kept.blocked ≡ is_blocked s (left_of p h s) (pending_in p h)

-- each pending wait of a history names another stream, which is neither lost nor closed, and its first unprocessed number, which
-- is lower
abbrev pub HaveTargets : PlansData → List Event → Type 0
HaveTargets p h = All (Rank (length p.plans) (sync_of p h)) (pending_in p h)

-- its waits form no cycle: a path from a pending wait, each of the number that the one before names, only meets lower numbers
abbrev pub FormNoCycle : PlansData → List Event → Type 0
FormNoCycle p h = (wait : Wait) (path : List Wait) → Contains (pending_in p h) wait → IsPath (length p.plans) (sync_of p h) wait path
    → All (λ next. next.order < wait.order) path
