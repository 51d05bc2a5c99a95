use Rattle.std.proofs.Common.{◌≡◌, ◌+◌, ◌<◌, length, take}
use Rattle.std.specs.Prelude.{Ok}
use Rattle.std.specs.List.{concat}
use Rattle.gpu_io.specs.declared.failed.Failed.{Failed}
use Rattle.run_output.specs.Pieces.{Puts}
use Rattle.run_output.proofs.page.Page.put_all.Given as goal

abbrev pub invariant-loop-index : goal.invariant-loop-index
invariant-loop-index g l = record {
  put : Puts {T = Unit {0}} {E = Failed} g.K.Sink.written g.K.Sink.faults l.fn.sink l.fn.self.gathered l.sink l.self.gathered (Ok tt) (concat (take l.index (g.L.Lines.lines l.lines)));
  below : length l.fn.self.gathered + length (concat (g.L.Lines.lines l.lines)) < l.fn.self.limit → l.sink ≡ l.fn.sink;
  limit : l.self.limit ≡ l.fn.self.limit;
}
