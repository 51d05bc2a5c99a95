use Rattle.std.proofs.Common.{◌≡◌, ◌-◌, refl, sym, ◌∙◌}
use Rattle.std.specs.Prelude.{slice_get}
use Rattle.std.proofs.lemmas.Option.{IfSome_then}
use Rattle.result_words.specs.Seen.{ResultWriterData}
use Rattle.sync_core.specs.Standing.{is_open}
use Rattle.gpu_journal.specs.declared.event.Event.TheVariants.{Finish}
use Rattle.gpu_journal.specs.Waits.{standing_of}
use Rattle.house_core.specs.Desks.{at_home}
use Rattle.gpu_house.specs.Names.{table_at}
use Rattle.gpu_house.proofs.Places.{if_there}
use Rattle.gpu_hall.proofs.Outs.{none_set}
use Rattle.gpu_hall.proofs.Fitting.{fits_while}
use Rattle.gpu_hall.proofs.hall.Hall.finish.Goals as goal

pub invariant_of-self : goal.invariant_of-self
invariant_of-self g c =
    let N = g.N.Naming in
    let h = c.self.inside.house.core.past in
    record {
      fits = fits_while N.plans N.words N.queues N.view c.self.inside.takers.items c.self.inside.view (Finish c.args.run.run.stream c.args.run.run.order) h c.finish.new.self.core.past (is_open (standing_of N.plans h c.args.run.run.stream)) refl refl
          c.finish.ensures.event c.finish.ensures.over c.self.invariant.fits;
      going = none_set c.self.inside.house.core.outs c.finish.new.self.core.outs c.args.run.run.stream at_home c.finish.ensures.outs refl c.self.invariant.going;
    }

pub finish-requires : goal.finish-requires
finish-requires g c =
    let run = c.args.run in
    let s = run.run.stream in
    let fit = c.shows_fit.ensures in
    let own = c.requires.words.0 ∙ sym fit.shared in
    let kept = slice_get c.self.inside.house.results (s - 1) in
    record {
      end = c.requires.end;
      going = c.requires.going;
      belongs = own;
      note = IfSome_then run.note fit.note_shared (λ n of. (own, of ∙ sym fit.shared));
      results = IfSome_then kept (if_there (λ (x : ResultWriterData). x.table ≡ table_at g.N.Naming.result_words s) kept (c.shows_laws.ensures.results s fit.of_plans.known)) (λ x its. c.requires.words.1 ∙ sym its);
    }
