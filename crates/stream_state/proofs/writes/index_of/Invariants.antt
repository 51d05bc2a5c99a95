use Rattle.std.proofs.Common.{◌≡◌, ◌++◌, ℕ, take, drop}
use Rattle.stream_state.specs.Writes.{with_write}
use Rattle.stream_state.proofs.writes.index_of.Given as goal

abbrev pub invariant-loop-i : goal.invariant-loop-i
invariant-loop-i l = (value : ℕ) → with_write (l.place, value) l.writes ≡ take l.i l.writes ++ with_write (l.place, value) (drop l.i l.writes)
