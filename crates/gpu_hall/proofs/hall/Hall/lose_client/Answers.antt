use Rattle.std.proofs.Common.{[], refl}
use Rattle.sync_core.specs.Standing.{is_open}
use Rattle.gpu_journal.specs.declared.event.Event.TheVariants.{Lost}
use Rattle.gpu_journal.specs.declared.event.Why.TheVariants.{Memory}
use Rattle.gpu_journal.specs.Waits.{standing_of}
use Rattle.gpu_hall.proofs.Outs.{none_same, outs_while}
use Rattle.gpu_hall.proofs.Fitting.{fits_while}
use Rattle.gpu_hall.proofs.hall.Hall.lose_client.Goals as goal

pub invariant_of-self : goal.invariant_of-self
invariant_of-self g c =
    let N = g.N.Naming in
    let h = c.self.inside.house.core.past in
    record {
      fits = fits_while N.plans N.words N.queues N.view c.self.inside.takers.items c.self.inside.view (Lost c.args.stream Memory []) h c.lose_client.new.self.core.past (is_open (standing_of N.plans h c.args.stream)) refl refl
          (λ o. (c.lose_client.ensures.event o).past) (λ o. (c.lose_client.ensures.over o).past) c.self.invariant.fits;
      going = none_same c.self.inside.house.core.outs c.lose_client.new.self.core.outs (outs_while c.self.inside.house.core.outs c.lose_client.new.self.core.outs (is_open (standing_of N.plans h c.args.stream)) (λ o. (c.lose_client.ensures.event o).outs) (λ o. (c.lose_client.ensures.over o).outs)) c.self.invariant.going;
    }
