use Rattle.std.proofs.Common.{length}
use Rattle.std.specs.Prelude.{replicate}
use Rattle.house_core.specs.Desks.{at_home}
use Rattle.gpu_hall.proofs.Outs.{none_same, none_first}
use Rattle.gpu_hall.proofs.Takers.{fresh_takers}
use Rattle.gpu_hall.proofs.Viewed.{view_first}
use Rattle.gpu_hall.proofs.hall.Hall.make.Goals as goal

pub invariant_of-result : goal.invariant_of-result
invariant_of-result g c =
    let N = g.N.Naming in
    let h = c.args.house.core.past in
    record {
      fits = record {
        queues = fresh_takers N.plans N.words N.queues h c.args.takers.items c.requires.empty c.requires.takers;
        view = view_first N.plans N.view h c.args.view c.requires.empty c.requires.view;
      };
      going = none_same (replicate (length N.plans.plans) at_home) c.args.house.core.outs c.requires.home (none_first (length N.plans.plans));
    }
