use Rattle.std.proofs.Common.{◌≡◌, ℕ, ◌+◌, ◌-◌, ◌<◌, [], ◌∷◌, ◌++◌, false, List, length, refl, sym, ap, subst, ◌∙◌, arith, length-set, IsSome, unwrap_or}
use Rattle.std.specs.Prelude.{slice_set, slice_get}
use Rattle.gpu_plan.specs.Plans.{PlansData, plan_of}
use Rattle.gpu_plan.specs.Places.{flush_places, mark_of}
use Rattle.gpu_plan.specs.Passes.{flushes}
use Rattle.sync_core.specs.Standing.{IsKnown}
use Rattle.gpu_journal.specs.declared.event.Event.{Event}
use Rattle.gpu_journal.specs.World.{known}
use Rattle.gpu_journal.specs.Waits.{standing_of, pending_in, drawn}
use Rattle.gpu_journal.specs.Legal.{IsLegal}
use Rattle.gpu_journal.specs.Serial.{order_event}
use Rattle.serial_laws.specs.Scripts.{AreLawfulPlans}
use Rattle.house_core.proofs.Held.{core_lawful, core_legal}
use Rattle.gpu_house.specs.Names.{table_at}
use Rattle.gpu_house.specs.Marks.{AreMarked}
use Rattle.gpu_house.proofs.Places.{set_back}
use Rattle.gpu_house.proofs.Rows.{slot_changed}
use Rattle.gpu_house.proofs.Endings.{order_makes, grown_follow}
use Rattle.gpu_house.proofs.Writings.{AllFit, all_still}
use Rattle.gpu_house.proofs.Keeping.{kept, kept_still}
use Rattle.gpu_house.proofs.Ordering.{next_there, pushed_back, ordered_homes}
use Rattle.gpu_house.proofs.house.House.order.Goals as goal

-- memory ran out for the note
pub invariant_of-self-in-Err-push : goal.invariant_of-self-in-Err-push
invariant_of-self-in-Err-push g c =
    let core = c.self.inside.core in
    let slots = c.self.inside.slots.items in
    let results = c.self.inside.results.items in
    let i = c.args.stream - 1 in
    let room = c.take_room.ensures in
    let back : slice_set slots i c.push.new.self ≡ slots = ap (slice_set slots i) c.in-Err-push.ensures.same ∙ set_back slots i c.index_mut-slot.result.now c.index_mut-slot.ensures.value in
    kept_still g.P.ServiceSide.side g.P.ServiceSide.table g.P.ServiceSide.mark g.P.ServiceSide.note_of g.P.ServiceSide.takes g.P.ServiceSide.written g.P.ServiceSide.results_of g.N.Naming.plans g.N.Naming.base g.N.Naming.words g.N.Naming.books g.N.Naming.result_words c.self.inside.hooks c.take_room.new.hooks
    record { core = core; slots = slots; results = results } record { core = core; slots = slice_set slots i c.push.new.self; results = results } c.self.invariant
    record { plans = refl; past = refl; books = refl; outs = refl; spare = omega arith } back refl room.base room.marks room.grows

pub order-requires-clause-next : goal.order-requires-clause-next
order-requires-clause-next g c =
    let s = c.args.stream in
    subst (λ (p : PlansData). IsSome (slice_get (flush_places (plan_of p s).actions) (known p c.self.inside.core.past s).ordered)) (sym c.self.invariant.plans)
    (subst (λ (h : List Event). IsSome (slice_get (flush_places (plan_of g.N.Naming.plans s).actions) (known g.N.Naming.plans h s).ordered)) (sym (ap (λ house. house.core.past) c.self.view_is))
    (next_there g.N.Naming.plans c.args.self.now.core.past s c.requires.next))

-- memory ran out for the order
pub invariant_of-self-in-Err-order : goal.invariant_of-self-in-Err-order
invariant_of-self-in-Err-order g c =
    let slots = c.self.inside.slots.items in
    let results = c.self.inside.results.items in
    let i = c.args.stream - 1 in
    let room = c.take_room.ensures in
    let slot = c.index_mut-slot.result.now in
    let popped = pushed_back slot c.push.new.self c.pop_last.new.self c.args.note _ c.in_default-push.ensures.ok c.in-Some.ensures in
    let back : slice_set slots i c.pop_last.new.self ≡ slots = ap (slice_set slots i) popped ∙ set_back slots i slot c.index_mut-slot.ensures.value in
    kept_still g.P.ServiceSide.side g.P.ServiceSide.table g.P.ServiceSide.mark g.P.ServiceSide.note_of g.P.ServiceSide.takes g.P.ServiceSide.written g.P.ServiceSide.results_of g.N.Naming.plans g.N.Naming.base g.N.Naming.words g.N.Naming.books g.N.Naming.result_words c.self.inside.hooks c.take_room.new.hooks
    record { core = c.self.inside.core; slots = slots; results = results } record { core = c.order.new.self; slots = slice_set slots i c.pop_last.new.self; results = results } c.self.invariant
    c.in-Err-order.ensures.err back refl room.base room.marks room.grows

pub returns-in-Err-order-clause-err : goal.returns-in-Err-order-clause-err
returns-in-Err-order-clause-err g c =
    let slots = c.self.inside.slots.items in
    let i = c.args.stream - 1 in
    let slot = c.index_mut-slot.result.now in
    let stays = c.in-Err-order.ensures.err in
    let popped = pushed_back slot c.push.new.self c.pop_last.new.self c.args.note _ c.in_default-push.ensures.ok c.in-Some.ensures in
    let back : slice_set slots i c.pop_last.new.self ≡ slots = ap (slice_set slots i) popped ∙ set_back slots i slot c.index_mut-slot.ensures.value in
    record {
      past = stays.past ∙ ap (λ house. house.core.past) c.self.view_is;
      outs = stays.outs ∙ ap (λ house. house.core.outs) c.self.view_is;
      slots = back ∙ ap (λ house. house.slots) c.self.view_is;
      results = ap (λ house. house.results) c.self.view_is;
    }

pub follow-requires : goal.follow-requires
follow-requires g c =
    let p = g.N.Naming.plans in
    let core = c.self.inside.core in
    let s = c.args.stream in
    let was = c.self.invariant in
    let lawful : AreLawfulPlans p = subst AreLawfulPlans was.plans (core_lawful core was.core) in
    let few = order_makes p core.past s (drawn core.plans core.past + 1) (unwrap_or (slice_get (flush_places (plan_of core.plans s).actions) (known core.plans core.past s).ordered) 0) lawful c.requires.known in
    let waiting : c.waiting.result ≡ length (pending_in p core.past) = c.waiting.ensures ∙ ap (λ (p : PlansData). length (pending_in p core.past)) was.plans in
    let room = c.in_default.ensures.room in
    grown_follow p g.N.Naming.base (order_event core.plans core.past s) core c.order.new.self c.self.inside.hooks c.take_room.new.hooks was.plans c.in-Ok.ensures.event was.marked
    c.take_room.ensures.base c.take_room.ensures.marks (omega (arith, few, waiting, room))

pub invariant_of-self-2 : goal.invariant_of-self-2
invariant_of-self-2 g c =
    let p = g.N.Naming.plans in
    let side = g.P.ServiceSide.side in
    let table = g.P.ServiceSide.table in
    let mark = g.P.ServiceSide.mark in
    let note_of = g.P.ServiceSide.note_of in
    let takes = g.P.ServiceSide.takes in
    let told = g.P.ServiceSide.written in
    let results_of = g.P.ServiceSide.results_of in
    let answers = table_at g.N.Naming.result_words in
    let core = c.self.inside.core in
    let now = c.order.new.self in
    let s = c.args.stream in
    let slots = c.self.inside.slots.items in
    let results = c.self.inside.results.items in
    let was = c.self.invariant in
    let grows = c.in-Ok.ensures.event in
    let view = sym (ap (λ house. house.core.past) c.self.view_is) in
    let past : now.past ≡ order_event p core.past s ∷ core.past = subst (λ (q : PlansData). now.past ≡ order_event q core.past s ∷ core.past) was.plans grows.past in
    kept side table mark note_of takes told results_of p g.N.Naming.base g.N.Naming.words g.N.Naming.books g.N.Naming.result_words c.self.inside.hooks c.follow.new.hooks
    record { core = core; slots = slots; results = results } record { core = now; slots = slice_set slots (s - 1) c.push.new.self; results = results } was
    c.shows_core.ensures grows.plans grows.books (subst (λ (b : ℕ). AreMarked now.plans b now.past c.follow.new.hooks) c.take_room.ensures.base c.follow.ensures) (length-set slots (s - 1) c.push.new.self)
    (ordered_homes side table mark note_of p (table_at g.N.Naming.words) core now slots s c.args.note c.index_mut-slot.result.now c.push.new.self
    (subst (λ (q : PlansData). IsLegal q core.past) was.plans (core_legal core was.core))
    (subst (λ (n : ℕ). IsKnown n s) (sym was.slots) c.requires.known)
    (subst (λ (q : PlansData). (standing_of q core.past s).lost ≡ false) was.plans (sym c.is_lost.ensures ∙ c.if-is_lost.false))
    (subst (λ (h : List Event). (known p h s).ordered < flushes (plan_of p s).actions) view c.requires.next)
    (subst (λ (h : List Event). mark c.args.note ≡ mark_of (plan_of p s) (known p h s).ordered) view c.requires.note) c.requires.table
    past c.order.ensures.outs c.index_mut-slot.ensures.value c.in_default-push.ensures.ok was.homes)
    refl
    (subst (λ (h : List Event). AllFit takes told results_of answers p h results) (sym past) (all_still takes told results_of answers p (order_event p core.past s) core.past results (λ s. refl) was.results))

pub returns-clause-slots : goal.returns-clause-slots
returns-clause-slots g c =
    let s = c.args.stream in
    let known = subst (λ (n : ℕ). IsKnown n s) (sym c.self.invariant.slots) c.requires.known in
    slot_changed (λ slot. record slot { notes = slot.notes ++ c.args.note ∷ [] }) c.self.inside.slots.items c.args.self.now.slots s s c.index_mut-slot.result.now c.push.new.self (ap (λ h. h.slots) c.self.view_is) refl known
    c.index_mut-slot.ensures.value c.in_default-push.ensures.ok
