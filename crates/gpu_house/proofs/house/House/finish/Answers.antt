use Rattle.std.proofs.Common.{◌≡◌, ℕ, ◌+◌, ◌-◌, true, false, Some, None, List, refl, sym, ap, subst, ◌∙◌, length, length-set, arith}
use Rattle.std.specs.Prelude.{slice_set, IfSome}
use Rattle.gpu_word.specs.Results.{finishes_in}
use Rattle.gpu_plan.specs.Plans.{PlansData}
use Rattle.gpu_fetch.specs.Side.{StillBelongs, finish_published}
use Rattle.sync_core.specs.Standing.{IsKnown, is_open}
use Rattle.gpu_journal.specs.declared.event.Event.{Event}
use Rattle.gpu_journal.specs.declared.event.Event.TheVariants.{Finish}
use Rattle.gpu_journal.specs.World.{known as known'}
use Rattle.gpu_journal.specs.Waits.{standing_of}
use Rattle.house_core.specs.Core.{IsRunOf, book_at}
use Rattle.gpu_house.specs.Marks.{AreMarked}
use Rattle.gpu_house.specs.Names.{table_at}
use Rattle.gpu_house.specs.House.{OutData}
use Rattle.gpu_house.specs.Changes.{CameDone}
use Rattle.gpu_house.proofs.Rows.{slot_changed}
use Rattle.gpu_house.proofs.Stepping.{note_marked}
use Rattle.gpu_house.proofs.Homes.{came_back, came_done, is_away, side_seen}
use Rattle.gpu_house.proofs.Cases.{open_here, known_here}
use Rattle.gpu_house.proofs.Endings.{grown_quietly}
use Rattle.gpu_house.proofs.Counting.{counted_next, few_finishes}
use Rattle.gpu_house.proofs.Writings.{AllFit, all_more, at_stream, read_belongs, wrote, wrote_none}
use Rattle.gpu_house.proofs.Keeping.{kept}
use Rattle.gpu_house.proofs.house.House.finish.Goals as goal

-- the stream was lost or closed before
pub invariant_of-self : goal.invariant_of-self
invariant_of-self g c =
    let p = g.N.Naming.plans in
    let takes = g.P.ServiceSide.takes in
    let told = g.P.ServiceSide.written in
    let results_of = g.P.ServiceSide.results_of in
    let answers = table_at g.N.Naming.result_words in
    let results = c.self.inside.results.items in
    let was = c.self.invariant in
    let run = c.run.inside.carried in
    let slots = c.self.inside.slots.items in
    let t = c.stream-stream.result in
    let over = open_here c.self.inside.core t run.stream c.is_open.result false c.stream-stream.ensures c.is_open.ensures c.if-not-is_open.true in
    let waits = c.finish.ensures.over over in
    record {
      core = c.shows_core.ensures;
      plans = waits.plans ∙ was.plans;
      booked = waits.books ∙ was.booked;
      slots = length-set c.self.inside.slots.items (c.stream-stream.result - 1) c.come.new.self ∙ was.slots;
      homes = came_back g.P.ServiceSide.side g.P.ServiceSide.table g.P.ServiceSide.mark g.P.ServiceSide.note_of p (table_at g.N.Naming.words) (book_at g.N.Naming.books) run c.self.inside.core c.finish.new.self slots t c.index_mut-slot.result.now c.come.new.self c.run.inside.side c.run.inside.note
          c.stream-stream.ensures (known_here p slots t run.stream was.slots c.stream-stream.ensures c.run.invariant.of_plans.known) c.index_mut-slot.ensures.value c.come.ensures c.run.invariant waits.past c.finish.ensures.outs
          (λ o. let over' = ap (λ (q : PlansData). is_open (standing_of q c.self.inside.core.past run.stream)) (sym was.plans) ∙ over in absurd (cc)) was.homes;
      marked = subst (λ (h : List Event). AreMarked p g.N.Naming.base h c.self.inside.hooks) (sym waits.past) was.marked;
      result_count = was.result_count;
      results = subst (λ (h : List Event). AllFit takes told results_of answers p h results) (sym waits.past) was.results;
    }

pub returns-then-not-is_open-clause-home : goal.returns-then-not-is_open-clause-home
returns-then-not-is_open-clause-home g c over =
    let run = c.run.inside.carried in
    let slots = c.self.inside.slots.items in
    let t = c.stream-stream.result in
    side_seen run c.run.inside.side c.run.inside.note c.args.run slots c.args.self.now.slots t c.index_mut-slot.result.now c.come.new.self c.run.view_is (ap (λ h. h.slots) c.self.view_is)
    c.stream-stream.ensures (known_here g.N.Naming.plans slots t run.stream c.self.invariant.slots c.stream-stream.ensures c.run.invariant.of_plans.known) c.index_mut-slot.ensures.value c.come.ensures

pub returns-then-not-is_open-clause-results : goal.returns-then-not-is_open-clause-results
returns-then-not-is_open-clause-results g c =
    wrote_none g.P.ServiceSide.results_belong c.args.words.now c.args.self.now.results c.self.inside.results.items c.args.run.run.stream (ap (λ h. h.results) c.self.view_is) c.requires.results

pub follow-requires : goal.follow-requires
follow-requires g c =
    let run = c.run.inside.carried in
    let grows = c.finish-2.ensures.event (open_here c.self.inside.core c.stream-stream.result run.stream c.is_open.result true c.stream-stream.ensures c.is_open.ensures c.if-not-is_open.false) in
    grown_quietly g.N.Naming.plans g.N.Naming.base (Finish run.stream run.order) c.self.inside.core c.finish-2.new.self c.self.inside.hooks c.self.invariant.plans grows c.self.invariant.marked refl

pub count_finish-requires : goal.count_finish-requires
count_finish-requires g c =
    let t = c.stream-stream.result in
    record {
      belongs = read_belongs g.P.ServiceSide.results_belong c.args.words.now c.args.self.now.results c.self.inside.results.items c.args.run.run.stream t c.index_mut-own.result.now
          (ap (λ h. h.results) c.self.view_is) (c.stream-stream.ensures ∙ ap (λ r. r.run.stream) c.run.view_is)
          (known_here g.N.Naming.plans c.self.inside.results.items t c.run.inside.carried.stream c.self.invariant.result_count c.stream-stream.ensures c.run.invariant.of_plans.known) c.index_mut-own.ensures.value c.requires.results;
    }

pub meet-requires-clause-flush : goal.meet-requires-clause-flush
meet-requires-clause-flush g c = note_marked g.P.ServiceSide.side g.P.ServiceSide.table g.P.ServiceSide.mark g.P.ServiceSide.note_of g.N.Naming.plans (table_at g.N.Naming.words) (book_at g.N.Naming.books) c.run.inside.carried c.run.inside.side c.run.inside.note c.run.invariant

pub invariant_of-self-2 : goal.invariant_of-self-2
invariant_of-self-2 g c =
    let p = g.N.Naming.plans in
    let takes = g.P.ServiceSide.takes in
    let told = g.P.ServiceSide.written in
    let results_of = g.P.ServiceSide.results_of in
    let answers = table_at g.N.Naming.result_words in
    let core = c.self.inside.core in
    let run = c.run.inside.carried in
    let t = c.stream-stream.result in
    let slots = c.self.inside.slots.items in
    let slots' = slice_set slots (t - 1) c.finish-3.new.self in
    let results = c.self.inside.results.items in
    let results' = slice_set results (t - 1) c.count_finish.new.results in
    let was = c.self.invariant in
    let still_open = open_here core t run.stream c.is_open.result true c.stream-stream.ensures c.is_open.ensures c.if-not-is_open.false in
    let grows = c.finish-2.ensures.event still_open in
    let run_of : IsRunOf p core.past run = subst (λ (q : PlansData). IsRunOf q core.past run) was.plans (c.finish-2.ensures.away.shows still_open) in
    let end : run.facts.get ≡ run.facts.put = subst (λ (o : OutData g.row.P.Denot g.row.P-Note.Denot). o.run.facts.get ≡ o.run.facts.put) (sym c.run.view_is) c.requires.end in
    let there = known_here p slots t run.stream was.slots c.stream-stream.ensures c.run.invariant.of_plans.known in
    let met = c.meet.ensures in
    kept g.P.ServiceSide.side g.P.ServiceSide.table g.P.ServiceSide.mark g.P.ServiceSide.note_of takes told results_of p g.N.Naming.base g.N.Naming.words g.N.Naming.books g.N.Naming.result_words c.self.inside.hooks c.follow.new.hooks
    record { core = core; slots = slots; results = results } record { core = c.finish-2.new.self; slots = slots'; results = results' } was
    c.shows_core-2.ensures grows.plans grows.books c.follow.ensures (length-set slots (t - 1) c.finish-3.new.self)
    (came_done g.P.ServiceSide.side g.P.ServiceSide.table g.P.ServiceSide.mark g.P.ServiceSide.note_of p (table_at g.N.Naming.words) (book_at g.N.Naming.books) run core c.finish-2.new.self slots t c.index_mut-slot.result.now c.finish-3.new.self c.run.inside.side c.publish_finish.new.self c.run.inside.note
    c.stream-stream.ensures there c.index_mut-slot.ensures.value c.finish-3.ensures c.run.invariant grows.past c.finish-2.ensures.outs (subst (λ (q : PlansData). is_open (standing_of q core.past run.stream) ≡ true) was.plans still_open) run_of end
    (is_away core run c.finish-2.ensures.away)
    (c.publish_finish.ensures.finished ∙ ap finish_published met.told) (c.publish_finish.ensures.table ∙ met.table) was.homes)
    (length-set results (t - 1) c.count_finish.new.results)
    (subst (λ (h : List Event). AllFit takes told results_of answers p h results') (sym grows.past)
    (all_more takes told results_of answers p (Finish run.stream run.order) core.past results t c.count_finish.new.results c.index_mut-own.result.now c.stream-stream.ensures
    (known_here p results t run.stream was.result_count c.stream-stream.ensures c.run.invariant.of_plans.known) c.index_mut-own.ensures.value c.count_finish.ensures.written c.count_finish.ensures.takes c.count_finish.ensures.named was.results))

pub returns-clause-done : goal.returns-clause-done
returns-clause-done g c o =
    let S = g.P.ServiceSide in
    let slots = c.self.inside.slots.items in
    let t = c.stream-stream.result in
    let run = c.run.inside.carried in
    let done = c.publish_finish.new.self in
    let met = c.meet.ensures in
    let still : StillBelongs S.belongs S.note_belongs c.args.words.now c.run.inside.side done = record { beside = c.publish_finish.ensures.belongs; notes = λ n belongs. c.publish_finish.ensures.notes n (met.still.notes n belongs) } in
    let now = slice_set slots (t - 1) c.finish-3.new.self in
    subst (λ (o : OutData g.row.P.Denot g.row.P-Note.Denot). CameDone S.side S.mark S.belongs S.note_belongs c.args.words.now c.args.self.now.slots now o.run.stream o.side o.note) c.run.view_is record {
      done = done;
      told = c.publish_finish.ensures.finished ∙ ap finish_published met.told;
      still = still;
      slots = slot_changed (λ slot. record slot { side = Some done; begun = false; first = None }) slots c.args.self.now.slots run.stream t c.index_mut-slot.result.now c.finish-3.new.self (ap (λ h. h.slots) c.self.view_is) c.stream-stream.ensures
          (known_here g.N.Naming.plans slots t run.stream c.self.invariant.slots c.stream-stream.ensures c.run.invariant.of_plans.known) c.index_mut-slot.ensures.value c.finish-3.ensures;
    }

pub returns-clause-results : goal.returns-clause-results
returns-clause-results g c =
    let t = c.stream-stream.result in
    wrote g.P.ServiceSide.results_belong c.args.words.now c.args.self.now.results c.self.inside.results.items c.args.run.run.stream t c.count_finish.new.results
    (ap (λ h. h.results) c.self.view_is) (c.stream-stream.ensures ∙ ap (λ r. r.run.stream) c.run.view_is)
    (known_here g.N.Naming.plans c.self.inside.results.items t c.run.inside.carried.stream c.self.invariant.result_count c.stream-stream.ensures c.run.invariant.of_plans.known) c.count_finish.ensures.belongs

-- the finish that is published was counted before
pub publish_finish-requires-clause-counted : goal.publish_finish-requires-clause-counted
publish_finish-requires-clause-counted g c =
    let S = g.P.ServiceSide in
    let p = g.N.Naming.plans in
    let core = c.self.inside.core in
    let run = c.run.inside.carried in
    let t = c.stream-stream.result in
    let results = c.self.inside.results.items in
    let was = c.self.invariant in
    let still_open = open_here core t run.stream c.is_open.result true c.stream-stream.ensures c.is_open.ensures c.if-not-is_open.false in
    let run_of : IsRunOf p core.past run = subst (λ (q : PlansData). IsRunOf q core.past run) was.plans (c.finish-2.ensures.away.shows still_open) in
    let known = known_here p results t run.stream was.result_count c.stream-stream.ensures c.run.invariant.of_plans.known in
    let fit = at_stream S.takes S.written S.results_of (table_at g.N.Naming.result_words) p core.past results t c.index_mut-own.result.now known c.index_mut-own.ensures.value was.results in
    let next = counted_next p core.past t (S.written c.index_mut-own.result.now) (S.written c.count_finish.new.results) fit.are_written c.count_finish.ensures.written in
    let same : (known' p core.past t).finished ≡ (S.side c.meet.new.side).finished =
    ap (λ (s : ℕ). (known' p core.past s).finished) c.stream-stream.ensures ∙ sym run_of.finished ∙ sym c.run.invariant.finished ∙ sym c.meet.ensures.finished in
    subst (λ (n : ℕ). IfSome (S.written c.count_finish.new.results) (λ list. finishes_in list ≡ n + 1)) same next

pub publish_finish-requires-clause-room : goal.publish_finish-requires-clause-room
publish_finish-requires-clause-room g c =
    let core = c.self.inside.core in
    let run = c.run.inside.carried in
    let was = c.self.invariant in
    let of_core = c.finish-2.ensures.away.shows (open_here core c.stream-stream.result run.stream c.is_open.result true c.stream-stream.ensures c.is_open.ensures c.if-not-is_open.false) in
    let few = few_finishes core run.stream was.core (subst (λ (q : PlansData). IsKnown (length q.plans) run.stream) (sym was.plans) c.run.invariant.of_plans.known) in
    omega (arith, few, of_core.finished, c.run.invariant.finished, c.meet.ensures.finished)
