use Rattle.std.proofs.Common.{◌≡◌}
use Rattle.gpu_hall.specs.Collecting.{HasCollected}
use Rattle.gpu_hall.proofs.hall.Hall.collect.Given as goal

abbrev pub invariant-loop-stream : goal.invariant-loop-stream
invariant-loop-stream g l = record {
  collected : HasCollected g.N.Naming.plans l.fn.self.past l.self.past;
  outs : l.self.outs ≡ l.fn.self.outs;
  view : l.self.view ≡ l.fn.self.view;
}
