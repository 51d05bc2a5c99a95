use Rattle.std.proofs.Common.{◌≡◌, ◌-◌, true, List, length, sym, ap, subst, ◌∙◌, length-set}
use Rattle.sync_core.specs.Standing.{is_open}
use Rattle.gpu_plan.specs.Plans.{PlansData}
use Rattle.gpu_journal.specs.declared.event.Event.{Event}
use Rattle.gpu_journal.specs.Waits.{standing_of}
use Rattle.house_core.specs.Core.{IsRunOf, book_at}
use Rattle.gpu_house.specs.Names.{table_at}
use Rattle.gpu_house.specs.Marks.{AreMarked}
use Rattle.gpu_house.specs.House.{HouseData, OutData}
use Rattle.gpu_house.proofs.Cases.{known_here}
use Rattle.gpu_house.proofs.Writings.{AllFit}
use Rattle.gpu_house.proofs.Homes.{came_back, is_away, side_seen}
use Rattle.gpu_house.proofs.house.House.back.Goals as goal

pub invariant_of-self : goal.invariant_of-self
invariant_of-self g c =
    let S = g.P.ServiceSide in
    let p = g.N.Naming.plans in
    let core = c.self.inside.core in
    let now = c.back.new.self in
    let run = c.run.inside.carried in
    let slots = c.self.inside.slots.items in
    let results = c.self.inside.results.items in
    let t = c.stream-stream.result in
    let was = c.self.invariant in
    let waits = c.back.ensures.same in
    let there = known_here p slots t run.stream was.slots c.stream-stream.ensures c.run.invariant.of_plans.known in
    let whole : is_open (standing_of p core.past run.stream) ≡ true → length (S.side c.run.inside.side).fetched ≡ run.facts.fetched =
    subst (λ (o : OutData g.row.P.Denot g.row.P-Note.Denot). is_open (standing_of p core.past o.run.stream) ≡ true → length (S.side o.side).fetched ≡ o.run.facts.fetched) (sym c.run.view_is)
    (subst (λ (h : HouseData g.row.P.Denot g.row.P-Note.Denot g.row.P-Results.Denot). is_open (standing_of p h.core.past c.args.run.run.stream) ≡ true → length (S.side c.args.run.side).fetched ≡ c.args.run.run.facts.fetched) (sym c.self.view_is) c.requires.list) in
    let run_of : is_open (standing_of p core.past run.stream) ≡ true → IsRunOf p core.past run = subst (λ (q : PlansData). is_open (standing_of q core.past run.stream) ≡ true → IsRunOf q core.past run) was.plans c.back.ensures.away.shows in
    record {
      core = c.shows_core.ensures;
      plans = waits.plans ∙ was.plans;
      booked = waits.books ∙ was.booked;
      slots = length-set slots (t - 1) c.come.new.self ∙ was.slots;
      homes = came_back S.side S.table S.mark S.note_of p (table_at g.N.Naming.words) (book_at g.N.Naming.books) run core now slots t c.index_mut.result.now c.come.new.self c.run.inside.side c.run.inside.note
          c.stream-stream.ensures there c.index_mut.ensures.value c.come.ensures c.run.invariant waits.past c.back.ensures.outs
          (λ o. (run_of o, whole o, is_away core run c.back.ensures.away)) was.homes;
      marked = subst (λ (h : List Event). AreMarked p g.N.Naming.base h c.self.inside.hooks) (sym waits.past) was.marked;
      result_count = was.result_count;
      results = subst (λ (h : List Event). AllFit S.takes S.written S.results_of (table_at g.N.Naming.result_words) p h results) (sym waits.past) was.results;
    }

pub returns-clause-slots : goal.returns-clause-slots
returns-clause-slots g c =
    let run = c.run.inside.carried in
    let slots = c.self.inside.slots.items in
    let t = c.stream-stream.result in
    side_seen run c.run.inside.side c.run.inside.note c.args.run slots c.args.self.now.slots t c.index_mut.result.now c.come.new.self c.run.view_is (ap (λ h. h.slots) c.self.view_is)
    c.stream-stream.ensures (known_here g.N.Naming.plans slots t run.stream c.self.invariant.slots c.stream-stream.ensures c.run.invariant.of_plans.known) c.index_mut.ensures.value c.come.ensures
