use Rattle.std.proofs.Common.{◌≡◌, ◌+◌, vec_len}
use Rattle.std.specs.Prelude.{vec_capacity}
use Rattle.stream_state.specs.Writes.{first_words}
use Rattle.stream_state.proofs.writes.Writes.of_bytes.Given as goal

abbrev pub invariant-loop-i : goal.invariant-loop-i
invariant-loop-i l = record {
  written : l.items.items ≡ first_words l.place l.bytes l.i;
  len : vec_len l.items ≡ l.i;
  room : vec_capacity l.items ≡ l.count + 1;
}
