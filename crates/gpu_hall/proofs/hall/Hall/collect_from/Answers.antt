use Rattle.std.proofs.Common.{◌∙◌}
use Rattle.gpu_hall.specs.Collecting.{GrewBy}
use Rattle.gpu_hall.proofs.Collected.{next_from, more_grew}
use Rattle.gpu_hall.proofs.hall.Hall.collect_from.Goals as goal

pub loop-count-preserved : goal.loop-count-preserved
loop-count-preserved g c =
    let p = g.N.Naming.plans in
    let s = c.args.stream in
    let old = c.args.self.now.past in
    let here = c.loop-count.self.past in
    let new = c.collect_next.new.self.past in
    let was = c.loop-count.invariant in
    let next = c.collect_next.ensures in
    let one : GrewBy p s 1 here new = c.if-not-collect_next.ensures.count in
    record {
      collected = next_from p s old here new next.came was.collected;
      count = more_grew p s old here new c.loop-count.count 1 next.came was.count one;
      outs = next.outs ∙ was.outs;
      view = next.view ∙ was.view;
    }
