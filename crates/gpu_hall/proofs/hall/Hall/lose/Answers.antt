use Rattle.std.proofs.Common.{[], refl}
use Rattle.sync_core.specs.Standing.{is_open}
use Rattle.gpu_journal.specs.declared.event.Event.TheVariants.{Lost}
use Rattle.gpu_journal.specs.declared.event.Why.TheVariants.{Memory}
use Rattle.gpu_journal.specs.Waits.{standing_of}
use Rattle.house_core.specs.Desks.{at_home}
use Rattle.gpu_hall.proofs.Outs.{none_set}
use Rattle.gpu_hall.proofs.Fitting.{fits_while}
use Rattle.gpu_hall.proofs.hall.Hall.lose.Goals as goal

pub invariant_of-self : goal.invariant_of-self
invariant_of-self g c =
    let N = g.N.Naming in
    let h = c.self.inside.house.core.past in
    record {
      fits = fits_while N.plans N.words N.queues N.view c.self.inside.takers.items c.self.inside.view (Lost c.args.run.run.stream Memory []) h c.lose.new.self.core.past (is_open (standing_of N.plans h c.args.run.run.stream)) refl refl
          c.lose.ensures.event c.lose.ensures.over c.self.invariant.fits;
      going = none_set c.self.inside.house.core.outs c.lose.new.self.core.outs c.args.run.run.stream at_home c.lose.ensures.outs refl c.self.invariant.going;
    }
