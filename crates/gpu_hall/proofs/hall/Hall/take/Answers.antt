use Rattle.std.proofs.Common.{false, refl}
use Rattle.gpu_hall.proofs.Fitting.{fits_same}
use Rattle.gpu_hall.proofs.Outs.{none_set}
use Rattle.gpu_hall.proofs.hall.Hall.take.Goals as goal

pub invariant_of-self-2 : goal.invariant_of-self-2
invariant_of-self-2 g c =
    let N = g.N.Naming in
    let core = c.self.inside.house.core in
    let run = c.in_ok-run.run'.run in
    record {
      fits = fits_same N.plans N.words N.queues N.view c.self.inside.takers.items c.self.inside.view core.past c.take.new.self.core.past c.take.ensures.past c.self.invariant.fits;
      going = none_set core.outs c.take.new.self.core.outs run.stream record { order = run.order; paused = false } c.in_ok-run.ensures.outs refl c.self.invariant.going;
    }
