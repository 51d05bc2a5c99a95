-- A complete history: nothing is left to do for any stream.
use Rattle.std.specs.Prelude.{◌≡◌, ℕ, false, List}
use Rattle.gpu_plan.specs.Plans.{PlansData, is_closed, plan_of}
use Rattle.gpu_plan.specs.Passes.{flushes}
use Rattle.gpu_journal.specs.declared.event.Event.{Event}
use Rattle.gpu_journal.specs.World.{known}
use Rattle.gpu_journal.specs.Waits.{IsOpen}

-- the client never closes, and each of its flushes is ordered and finished
pub record IsDone (p : PlansData) (h : List Event) (s : ℕ) : Type 0 where
  pub stays_open : is_closed (plan_of p s).actions ≡ false
  pub ordered : (known p h s).ordered ≡ flushes (plan_of p s).actions
  pub finished : (known p h s).finished ≡ flushes (plan_of p s).actions

-- each stream is lost, closed or done
abbrev pub IsComplete : PlansData → List Event → Type 0
IsComplete p h = (s : ℕ) → IsOpen p h s → IsDone p h s
