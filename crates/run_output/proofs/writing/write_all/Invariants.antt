use Rattle.std.proofs.Common.{◌≡◌, ◌≤◌, ◌++◌, [], List, ℕ, length}
use Rattle.std.specs.Io.KnownBytes.{Appends}
use Rattle.run_output.proofs.writing.write_all.Given as goal

abbrev pub invariant-loop-rest : goal.invariant-loop-rest
invariant-loop-rest g l = record {
  appended : (front : List ℕ) × (front ++ l.rest ≡ l.bytes) × Appends (g.K.Sink.written l.fn.sink) (g.K.Sink.written l.sink) front;
  later : g.K.Sink.faults l.fn.sink ≤ g.K.Sink.faults l.sink;
  untouched : l.bytes ≡ [] → l.sink ≡ l.fn.sink;
}

abbrev pub decreases-loop-rest : goal.decreases-loop-rest
decreases-loop-rest g l = length l.rest
