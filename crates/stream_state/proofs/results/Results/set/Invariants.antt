use Rattle.std.proofs.Common.{◌≡◌, ◌≤◌, ℕ, length, drop, slice_index}
use Rattle.stream_state.specs.Writes.{end_of_writes, left_by_writes}
use Rattle.stream_state.proofs.results.Results.set.Given as goal

abbrev pub invariant-loop-place : goal.invariant-loop-place
invariant-loop-place l = record {
  sized : length l.self-inside.values.items ≡ length l.fn.self;
  room : end_of_writes (drop l.place-index l.writes) ≤ length l.fn.self;
  written : (k : ℕ) → left_by_writes (drop l.place-index l.writes) k (slice_index l.self-inside.values.items k) ≡ left_by_writes l.writes k (slice_index l.fn.self k);
}
