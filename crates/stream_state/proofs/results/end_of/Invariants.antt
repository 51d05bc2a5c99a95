use Rattle.std.proofs.Common.{◌≡◌, max, drop}
use Rattle.stream_state.specs.Writes.{end_of_writes}
use Rattle.stream_state.proofs.results.end_of.Given as goal

abbrev pub invariant-loop-place : goal.invariant-loop-place
invariant-loop-place l = max l.end (end_of_writes (drop l.place-index l.writes)) ≡ end_of_writes l.writes
