-- The marks of a house.
use Rattle.std.specs.Prelude.{◌≡◌, ℕ, ◌+◌, ◌≤◌, List, length, map, take}
use Rattle.gpu_plan.specs.Plans.{PlansData}
use Rattle.wait_hooks.specs.Marks.{Marks, mark}
use Rattle.gpu_journal.specs.declared.event.Event.{Event}
use Rattle.gpu_journal.specs.Waits.{pending_in, endings_in}

-- each ending of the journal has its mark, and each pending wait has room for one
pub record AreMarked (p : PlansData) (base : ℕ) (h : List Event) (marks : Marks) : Type 0 where
  pub based : marks.base ≡ base
  pub all : marks.marks ≡ map (mark base) (endings_in p h)
  pub room : length (pending_in p h) ≤ marks.spare

-- the marks are those of the endings that came first, and the room is enough for all endings that came since and may come
pub record MayBeMarked (p : PlansData) (base : ℕ) (h : List Event) (marks : Marks) : Type 0 where
  pub based : marks.base ≡ base
  pub so_far : marks.marks ≡ map (mark base) (take (length marks.marks) (endings_in p h))
  pub few : length marks.marks ≤ length (endings_in p h)
  pub room : length (endings_in p h) + length (pending_in p h) ≤ length marks.marks + marks.spare
