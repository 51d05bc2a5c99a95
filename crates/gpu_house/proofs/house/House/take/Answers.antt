-- The facts of the run and of its slot are those of Homes.taken.
use Rattle.std.proofs.Common.{◌≡◌, ◌-◌, eqb, true, false, is_some, None, List, refl, sym, ap, subst, ◌∙◌, arith, length-set}
use Rattle.gpu_journal.specs.declared.event.Event.{Event}
use Rattle.house_core.specs.Core.{is_home, book_at}
use Rattle.house_core.specs.Desks.{Out}
use Rattle.house_core.proofs.Held.{core_legal}
use Rattle.gpu_house.specs.Names.{table_at}
use Rattle.gpu_house.specs.Slots.{SlotData, slot_at, note_ahead, left_slot}
use Rattle.gpu_house.specs.House.{HouseData}
use Rattle.gpu_house.specs.Marks.{AreMarked}
use Rattle.gpu_house.proofs.Keeping.{kept_still}
use Rattle.gpu_house.proofs.Rows.{slot_there, slot_changed}
use Rattle.gpu_house.proofs.Writings.{AllFit}
use Rattle.gpu_house.proofs.Sides.{taken_fits}
use Rattle.gpu_house.proofs.Homes.{Taken, taken, taken_list, went_out, is_away}
use Rattle.gpu_house.proofs.house.House.take.Given.{Over}
use Rattle.gpu_house.proofs.house.House.take.Goals as goal
use Rattle.gpu_house.proofs.house.House.take.Goals.{After-index_mut}

-- no stream can run
pub invariant_of-self : goal.invariant_of-self
invariant_of-self g c =
    let S = g.P.ServiceSide in
    let N = g.N.Naming in
    let slots = c.self.inside.slots.items in
    let results = c.self.inside.results.items in
    let marks = c.self.inside.hooks in
    kept_still S.side S.table S.mark S.note_of S.takes S.written S.results_of N.plans N.base N.words N.books N.result_words marks marks
    record { core = c.self.inside.core; slots = slots; results = results } record { core = c.take.new.self; slots = slots; results = results } c.self.invariant
    c.in_err-carried.ensures.none refl refl refl refl (omega arith)

-- the facts of the run, and of the slot that its side leaves
it : (g : Over) (c : goal.After-index_mut g) (left : SlotData g.row.P.Denot g.row.P-Note.Denot)
    → Taken g.P.ServiceSide.side g.P.ServiceSide.table g.P.ServiceSide.mark g.P.ServiceSide.note_of g.N.Naming.plans (table_at g.N.Naming.words) (book_at g.N.Naming.books) c.in_ok-carried.carried c.self.inside.core c.take.new.self c.self.inside.slots.items c.stream.result c.index_mut.result.now left
it g c left =
    let S = g.P.ServiceSide in
    let core = c.self.inside.core in
    let told = c.in_ok-carried.ensures.leaves in
    let was = c.self.invariant in
    taken S.side S.table S.mark S.note_of g.N.Naming.plans (table_at g.N.Naming.words) (book_at g.N.Naming.books) c.in_ok-carried.carried core c.take.new.self c.self.inside.slots.items c.stream.result c.index_mut.result.now left
    was.plans told.own.plan told.run (core_legal core was.core) was.slots c.stream.ensures c.index_mut.ensures.value was.homes

-- the stream is at home, so its slot has a side
has_side : (g : Over) (c : goal.After-index_mut g) → is_some c.index_mut.result.now.side ≡ true
has_side g c = (it g c c.index_mut.result.now).fits.at_home ∙ ap (λ (o : Out). eqb o.order 0) c.in_ok-carried.ensures.leaves.home

pub leave-requires : goal.leave-requires
leave-requires g c = has_side g c

-- so it leaves
pub unreachable-requires : goal.unreachable-requires
unreachable-requires g c =
    let some = has_side g (goal.at.unreachable-requires g c).After-index_mut in
    let none : None ≡ c.index_mut.result.now.side = c.in-None.ensures.side in
    let off : is_some c.index_mut.result.now.side ≡ false = ap is_some (sym none) in
    cc

pub invariant_of-result : goal.invariant_of-result
invariant_of-result g c =
    let S = g.P.ServiceSide in
    let core = c.self.inside.core in
    let run = c.in_ok-carried.carried in
    let told = c.in_ok-carried.ensures.leaves in
    let known = it g (goal.at.invariant_of-result g c).After-index_mut c.leave.new.self in
    taken_fits S.side S.table S.mark S.note_of g.N.Naming.plans (table_at g.N.Naming.words) (book_at g.N.Naming.books) run core.past (is_home core.outs run.stream) c.in-Some.side c.in-Some.note c.index_mut.result.now
    known.legal known.plan known.run_of (told.own.book ∙ ap (λ books. book_at books run.stream) c.self.invariant.booked) (sym c.in-Some.ensures.side) c.in-Some.ensures.note known.fits

pub invariant_of-self-2 : goal.invariant_of-self-2
invariant_of-self-2 g c =
    let S = g.P.ServiceSide in
    let p = g.N.Naming.plans in
    let core = c.self.inside.core in
    let now = c.take.new.self in
    let run = c.in_ok-carried.carried in
    let told = c.in_ok-carried.ensures.leaves in
    let was = c.self.invariant in
    let slots = c.self.inside.slots.items in
    let t = c.stream.result in
    let results = c.self.inside.results.items in
    let known = it g (goal.at.invariant_of-self-2 g c).After-index_mut c.leave.new.self in
    let waits = c.in_ok-carried.ensures.same in
    let out : Out = record { order = run.order; paused = false } in
    record {
      core = c.shows_core.ensures;
      plans = waits.plans ∙ was.plans;
      booked = waits.books ∙ was.booked;
      slots = length-set slots (t - 1) c.leave.new.self ∙ was.slots;
      homes = went_out S.side S.table S.mark S.note_of p (table_at g.N.Naming.words) (book_at g.N.Naming.books) run core now slots t c.index_mut.result.now c.leave.new.self known c.leave.ensures.slot waits.past out told.outs
          (is_away now run told.away) was.homes;
      marked = subst (λ (h : List Event). AreMarked p g.N.Naming.base h c.self.inside.hooks) (sym waits.past) was.marked;
      result_count = was.result_count;
      results = subst (λ (h : List Event). AllFit S.takes S.written S.results_of (table_at g.N.Naming.result_words) p h results) (sym waits.past) was.results;
    }

pub returns-clause-list : goal.returns-clause-list
returns-clause-list g c =
    let S = g.P.ServiceSide in
    taken_list S.side S.table S.mark S.note_of g.N.Naming.plans (table_at g.N.Naming.words) (book_at g.N.Naming.books) c.in_ok-carried.carried c.self.inside.core c.take.new.self c.self.inside.slots.items c.stream.result c.index_mut.result.now c.leave.new.self c.in-Some.side
    (it g (goal.at.returns-clause-list g c).After-index_mut c.leave.new.self) (sym c.in-Some.ensures.side)

-- the slot of the stream, as contracts see it
slot_is : (g : Over) (c : goal.After-index_mut g) → c.index_mut.result.now ≡ slot_at c.args.self.now.slots c.in_ok-carried.carried.stream
slot_is g c =
    c.index_mut.ensures.value ∙ slot_there c.self.inside.slots.items c.stream.result c.index_mut.result.now (it g c c.index_mut.result.now).known
    ∙ ap (λ (h : HouseData g.row.P.Denot g.row.P-Note.Denot g.row.P-Results.Denot). slot_at h.slots c.stream.result) c.self.view_is ∙ ap (slot_at c.args.self.now.slots) c.stream.ensures

pub returns-clause-side : goal.returns-clause-side
returns-clause-side g c = c.in-Some.ensures.side ∙ ap (λ (slot : SlotData g.row.P.Denot g.row.P-Note.Denot). slot.side) (slot_is g (goal.at.returns-clause-side g c).After-index_mut)

pub returns-clause-note : goal.returns-clause-note
returns-clause-note g c = c.in-Some.ensures.note ∙ ap note_ahead (slot_is g (goal.at.returns-clause-note g c).After-index_mut)

pub returns-clause-slots : goal.returns-clause-slots
returns-clause-slots g c =
    let known = (it g (goal.at.returns-clause-slots g c).After-index_mut c.leave.new.self).known in
    slot_changed left_slot c.self.inside.slots.items c.args.self.now.slots c.in_ok-carried.carried.stream c.stream.result c.index_mut.result.now c.leave.new.self (ap (λ (h : HouseData g.row.P.Denot g.row.P-Note.Denot g.row.P-Results.Denot). h.slots) c.self.view_is) c.stream.ensures known c.index_mut.ensures.value c.leave.ensures.slot
