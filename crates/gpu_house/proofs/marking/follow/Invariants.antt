use Rattle.std.proofs.Common.{◌≡◌, ◌+◌, ◌≤◌, length, take, map}
use Rattle.wait_hooks.specs.Marks.{mark}
use Rattle.gpu_journal.specs.Waits.{pending_in}
use Rattle.gpu_house.proofs.marking.follow.Given as goal

-- the endings up to here have their marks, and the others and all pending waits have room for theirs
abbrev pub invariant-loop-i : goal.invariant-loop-i
invariant-loop-i g l = (l.hooks.base ≡ l.fn.hooks.base) × (l.hooks.marks ≡ map (mark l.fn.hooks.base) (take l.i l.endings)) × (length l.hooks.marks ≡ l.i) × (length l.endings + length (pending_in l.fn.core.plans l.fn.core.past) ≤ l.i + l.hooks.spare)
