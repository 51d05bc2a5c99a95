use Rattle.std.proofs.Common.{◌≡◌}
use Rattle.gpu_hall.specs.Collecting.{HasCollectedFrom, GrewBy}
use Rattle.gpu_hall.proofs.hall.Hall.collect_from.Given as goal

abbrev pub invariant-loop-count : goal.invariant-loop-count
invariant-loop-count g l = record {
  collected : HasCollectedFrom g.N.Naming.plans l.stream l.fn.self.past l.self.past;
  count : GrewBy g.N.Naming.plans l.stream l.count l.fn.self.past l.self.past;
  outs : l.self.outs ≡ l.fn.self.outs;
  view : l.self.view ≡ l.fn.self.view;
}
