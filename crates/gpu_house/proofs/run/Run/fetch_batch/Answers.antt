use Rattle.std.proofs.Common.{◌≢◌, sym, ap, subst, ◌∙◌}
use Rattle.gpu_house.specs.Names.{table_at}
use Rattle.gpu_house.specs.House.{OutData}
use Rattle.gpu_house.specs.Slots.{RunFits}
use Rattle.house_core.specs.Core.{book_at}
use Rattle.gpu_house.proofs.Stepping.{note_marked, met_fits}
use Rattle.gpu_house.proofs.Members.{batch_fetched}
use Rattle.gpu_house.proofs.run.Run.fetch_batch.Goals as goal

pub meet-requires-clause-flush : goal.meet-requires-clause-flush
meet-requires-clause-flush g c = note_marked g.P.ServiceSide.side g.P.ServiceSide.table g.P.ServiceSide.mark g.P.ServiceSide.note_of g.N.Naming.plans (table_at g.N.Naming.words) (book_at g.N.Naming.books) c.self.inside.carried c.self.inside.side c.self.inside.note c.self.invariant

-- the note is met first, where none was met
pub invariant_of-self : goal.invariant_of-self
invariant_of-self g c =
    let S = g.P.ServiceSide in
    let tables = table_at g.N.Naming.words in
    let books = book_at g.N.Naming.books in
    let run = c.self.inside.carried in
    let view = c.self.view_is in
    let going : run.facts.get ≢ run.facts.put = λ end. c.requires.more (ap (λ (out : OutData g.row.P.Denot g.row.P-Note.Denot). out.run.facts.get) (sym view) ∙ end ∙ ap (λ (out : OutData g.row.P.Denot g.row.P-Note.Denot). out.run.facts.put) view) in
    let met = met_fits S.side S.table S.mark S.note_of g.N.Naming.plans tables books run c.self.inside.side c.meet.new.side c.self.inside.note c.self.invariant c.meet.ensures.told c.meet.ensures.bounded c.meet.ensures.table in
    subst (RunFits S.side S.table S.mark S.note_of g.N.Naming.plans tables books run c.fetch.new.side) (sym c.meet.ensures.met)
    (batch_fetched S.side S.table S.mark S.note_of g.N.Naming.plans tables books run (S.shows c.args.words.now) c.meet.new.side c.fetch.new.side c.facts.result.now c.fetch.result going met c.fetch.ensures.table c.fetch.ensures.fetches c.fetch.ensures.some)
