use Rattle.std.proofs.Common.{◌≢◌, ℕ, List, ◌++◌, sym, ap, subst, ◌∙◌}
use Rattle.std.proofs.lemmas.Result.{IfOk-weaker}
use Rattle.gpu_cmd.specs.declared.facts.StreamFacts.{StreamFacts}
use Rattle.gpu_cmd.specs.Copied.{IsCopy}
use Rattle.gpu_fetch.specs.Side.{SideData, SideFetches}
use Rattle.gpu_fetch.specs.Fetched.{FetchesCommand}
use Rattle.gpu_house.specs.Names.{table_at}
use Rattle.gpu_house.specs.House.{OutData}
use Rattle.gpu_house.specs.Slots.{RunFits}
use Rattle.house_core.specs.Core.{book_at}
use Rattle.gpu_house.specs.Fetching.{RunFetches}
use Rattle.gpu_house.proofs.Running.{command_fetched, all_new}
use Rattle.gpu_house.proofs.Stepping.{note_marked, met_fits}
use Rattle.gpu_house.proofs.run.Run.fetch.Goals as goal

pub meet-requires-clause-flush : goal.meet-requires-clause-flush
meet-requires-clause-flush g c = note_marked g.P.ServiceSide.side g.P.ServiceSide.table g.P.ServiceSide.mark g.P.ServiceSide.note_of g.N.Naming.plans (table_at g.N.Naming.words) (book_at g.N.Naming.books) c.self.inside.carried c.self.inside.side c.self.inside.note c.self.invariant

-- the note is met first, where none was met
pub invariant_of-self : goal.invariant_of-self
invariant_of-self g c =
    let S = g.P.ServiceSide in
    let tables = table_at g.N.Naming.words in
    let books = book_at g.N.Naming.books in
    let run = c.self.inside.carried in
    let view = c.self.view_is in
    let going : run.facts.get ≢ run.facts.put = λ end. c.requires.more (ap (λ (out : OutData g.row.P.Denot g.row.P-Note.Denot). out.run.facts.get) (sym view) ∙ end ∙ ap (λ (out : OutData g.row.P.Denot g.row.P-Note.Denot). out.run.facts.put) view) in
    let met = met_fits S.side S.table S.mark S.note_of g.N.Naming.plans tables books run c.self.inside.side c.meet.new.side c.self.inside.note c.self.invariant c.meet.ensures.told c.meet.ensures.bounded c.meet.ensures.table in
    subst (RunFits S.side S.table S.mark S.note_of g.N.Naming.plans tables books run c.fetch_onto.new.side) (sym c.meet.ensures.met)
    (command_fetched S.side S.table S.mark S.note_of g.N.Naming.plans tables books run (S.shows c.args.words.now) c.meet.new.side c.fetch_onto.new.side c.facts.result.now c.clear.new.self.items c.fetch_onto.new.list.items c.fetch_onto.result going met c.fetch_onto.ensures.table c.fetch_onto.ensures.fetches c.fetch_onto.ensures.some)

pub returns-clause-fetches : goal.returns-clause-fetches
returns-clause-fetches g c =
    let S = g.P.ServiceSide in
    let list = c.fetch_onto.new.list.items in
    let met = c.meet.ensures in
    let new : SideData = S.side c.fetch_onto.new.side in
    let left : OutData g.row.P.Denot g.row.P-Note.Denot = record { run = c.self.inside.carried; side = c.fetch_onto.new.side; note = c.meet.new.note } in
    let same = all_new c.clear.new.self.items list c.clear.ensures.items in
    let Shows = S.shows c.args.words.now in
    IfOk-weaker c.fetch_onto.result (FetchesCommand Shows (S.side c.meet.new.side) new c.facts.result.now c.clear.new.self.items list) (λ _. RunFetches S.side S.mark S.shows c.args.words.now c.args.self.now left list) (λ verdict fetched.
    subst (λ (o : OutData g.row.P.Denot g.row.P-Note.Denot). RunFetches S.side S.mark S.shows c.args.words.now o left list) c.self.view_is
    (let found : SideFetches Shows (S.side c.meet.new.side) new list = subst (SideFetches Shows (S.side c.meet.new.side) new) same fetched.fetches in
    record {
      grows = ap (λ (s : SideData). s.fetched) found.fetches.grows ∙ ap (λ (l : List (ℕ × ℕ)). l ++ list) met.list;
      found = subst (λ (s : SideData). SideFetches Shows s new list) met.told found;
    })) c.fetch_onto.ensures.fetches

pub returns-clause-copy : goal.returns-clause-copy
returns-clause-copy g c =
    let S = g.P.ServiceSide in
    let list = c.fetch_onto.new.list.items in
    let old = c.clear.new.self.items in
    IfOk-weaker c.fetch_onto.result (FetchesCommand (S.shows c.args.words.now) (S.side c.meet.new.side) (S.side c.fetch_onto.new.side) c.facts.result.now old list) (IsCopy list c.args.self.now.run.facts) (λ verdict fetched.
    subst (λ (o : OutData g.row.P.Denot g.row.P-Note.Denot). IsCopy list o.run.facts verdict) c.self.view_is
    (subst (λ (facts : StreamFacts). IsCopy list facts verdict) c.facts.ensures.facts
    (subst (λ (l : List (ℕ × ℕ)). IsCopy l c.facts.result.now verdict) (all_new old list c.clear.ensures.items) fetched.copy))) c.fetch_onto.ensures.fetches
