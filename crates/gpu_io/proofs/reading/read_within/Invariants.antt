use Rattle.std.proofs.Common.{◌≡◌, ◌≤◌, ◌+◌, ◌-◌, vec_len}
use Rattle.std.specs.Io.KnownBytes.{Consumes}
use Rattle.gpu_io.proofs.reading.read_within.Given as goal

abbrev pub invariant-loop-bytes : goal.invariant-loop-bytes
invariant-loop-bytes g l = record {
  read : Consumes (g.S.Source.left l.fn.source) (g.S.Source.left l.source) l.bytes.items;
  short : vec_len l.bytes ≤ l.most;
  later : g.S.Source.faults l.fn.source ≤ g.S.Source.faults l.source;
  faultless : g.S.Source.faults l.source ≡ g.S.Source.faults l.fn.source;
}

abbrev pub decreases-loop-bytes : goal.decreases-loop-bytes
decreases-loop-bytes g l = l.most + 1 - vec_len l.bytes
