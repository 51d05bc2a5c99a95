use Rattle.sync_core.specs.Standing.{is_open}
use Rattle.gpu_journal.specs.Waits.{standing_of}
use Rattle.gpu_hall.proofs.Outs.{none_same, outs_closed}
use Rattle.gpu_hall.proofs.Fitting.{fits_closed}
use Rattle.gpu_hall.proofs.hall.Hall.close.Goals as goal

pub invariant_of-self : goal.invariant_of-self
invariant_of-self g c =
    let N = g.N.Naming in
    let h = c.self.inside.house.core.past in
    record {
      fits = fits_closed N.plans N.words N.queues N.view c.self.inside.takers.items c.self.inside.view h c.close.new.self.core.past c.args.stream c.close.result (is_open (standing_of N.plans h c.args.stream))
          (λ a b. (c.close.ensures.event a b).past) (λ f. (c.close.ensures.same f).past) c.self.invariant.fits;
      going = none_same c.self.inside.house.core.outs c.close.new.self.core.outs (outs_closed c.self.inside.house.core.outs c.close.new.self.core.outs c.close.result (is_open (standing_of N.plans h c.args.stream)) (λ a b. (c.close.ensures.event a b).outs) (λ f. (c.close.ensures.same f).outs)) c.self.invariant.going;
    }
