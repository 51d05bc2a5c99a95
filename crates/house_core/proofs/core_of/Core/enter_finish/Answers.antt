use Rattle.std.proofs.Common.{◌≡◌, ◌+◌, ℕ, eqb, true, ◌∷◌, refl, ap, sym, subst, ◌∙◌, arith, IsSome}
use Rattle.sync_core.specs.Standing.{is_open}
use Rattle.gpu_journal.specs.declared.event.Event.{Event}
use Rattle.gpu_journal.specs.declared.event.Event.TheVariants.{Finish}
use Rattle.gpu_journal.specs.Waits.{sync_of, standing_of}
use Rattle.gpu_journal.specs.Legal.{Obeys}
use Rattle.gpu_journal.proofs.Worlds.{images_then}
use Rattle.serial_laws.proofs.Needs.{need_finish}
use Rattle.house_core.specs.Desks.{DeskData, at_home, desk_at}
use Rattle.house_core.specs.Core.{CoreData, IsOfCore, IsAway, with_out}
use Rattle.house_core.specs.Invariant.{Parts, DeskFits, seen}
use Rattle.house_core.proofs.Rows.{books_stay, outs_set}
use Rattle.house_core.proofs.Fits.{fits_finish}
use Rattle.house_core.proofs.Again.{Place, seats_move, goes_on}
use Rattle.house_core.proofs.Seen.{parts_of, place_of_run}
use Rattle.house_core.proofs.Rooms.{room_of_finish}
use Rattle.house_core.proofs.Finishing.{finish_legal}
use Rattle.house_core.proofs.core_of.Core.enter_finish.Goals as goal

pub overflow_sub-owed : goal.overflow_sub-owed
overflow_sub-owed c = (room_of_finish _ _ c.args.run.stream c.args.run c.self.view_is c.self.invariant refl c.requires.own.plan c.requires.«open»).0

pub finish-requires-2-clause-room : goal.finish-requires-2-clause-room
finish-requires-2-clause-room c =
    let s = c.stream-stream.result in
    let place = place_of_run _ _ s c.args.run c.self.view_is c.self.invariant c.stream-stream.ensures c.requires.own.plan in
    let read = ap (λ (desk : DeskData). desk.finished) (c.index_mut.ensures.value ∙ place.there _) in
    let few = (room_of_finish _ _ s c.args.run c.self.view_is c.self.invariant c.stream-stream.ensures c.requires.own.plan c.requires.«open»).1 in
    omega (arith, read, few)

pub push-requires : goal.push-requires
push-requires c =
    let room = (room_of_finish _ _ c.args.run.stream c.args.run c.self.view_is c.self.invariant refl c.requires.own.plan c.requires.«open»).0 in
    let all = c.self.invariant.spare in
    omega (arith, room, all)

module _ (c : goal.After-push) where
  abbrev now : Parts
  now = parts_of c.self.inside

  abbrev s : ℕ
  s = c.stream-stream.result

  place : Place now s
  place = place_of_run now _ s c.args.run c.self.view_is c.self.invariant c.stream-stream.ensures c.requires.own.plan

  -- the event is the one that is owed
  event_is : Finish s c.order-order.result ≡ Finish c.args.run.stream c.args.run.order
  event_is = ap (λ (s : ℕ). Finish s c.order-order.result) c.stream-stream.ensures ∙ ap (Finish c.args.run.stream) c.order-order.ensures.order

  came : c.finish-2.new.desk ≡ record (desk_at now.desks s) { finished = (desk_at now.desks s).finished + 1; out = at_home }
  came = c.finish-2.ensures ∙ ap (λ (desk : DeskData). record desk { finished = desk.finished + 1; out = at_home }) (c.index_mut.ensures.value ∙ place.there _)

  obeys : Obeys c.args.self.now.plans c.args.self.now.past (Finish c.args.run.stream c.args.run.order)
  obeys =
      let run = c.args.run in
      subst (λ (v : CoreData). IsOfCore v run → IsAway v run → is_open (standing_of v.plans v.past run.stream) ≡ true → Obeys v.plans v.past (Finish run.stream run.order)) c.self.view_is
      (λ own away stays. finish_legal now run c.self.invariant own.plan away c.requires.going c.requires.end stays) c.requires.own c.requires.away c.requires.«open»

pub invariant_of-self : goal.invariant_of-self
invariant_of-self c =
    let p = (now c).plans in
    let h = (now c).past in
    let n = c.order-order.result in
    let event = Finish (s c) n in
    let was = c.self.invariant in
    let legal = subst (Obeys p h) (sym (event_is c)) (subst (λ (v : CoreData). Obeys v.plans v.past (Finish c.args.run.stream c.args.run.order)) (sym c.self.view_is) (obeys c)) in
    let room = (room_of_finish (now c) _ (s c) c.args.run c.self.view_is was c.stream-stream.ensures c.requires.own.plan c.requires.«open»).0 in
    let less = need_finish p h (s c) n (subst IsSome (sym legal.rule_4) refl) in
    goes_on (now c) _ event c.finish-2.new.desk was (place c) record {
      plans = refl;
      past = c.push.ensures.events;
      obeys = legal;
      stands = c.finish.ensures.stands (sync_of p h) was.sync;
      count = c.finish.ensures.count;
      endings = c.shows_room.ensures;
      images = was.images ∙ sym (images_then p event h);
      owed = omega (arith, less, room);
      spare = let most = was.spare in let left = c.push.ensures.spare in omega (arith, room, most, left);
      desks = refl;
      seats = seats_move (now c) _ (s c) _ true (place c) c.give_back.ensures.seats (ap (λ (desk : DeskData). eqb desk.out.order 0) (came c));
      fits = subst (DeskFits p (event ∷ h) (s c)) (sym (came c)) (fits_finish p h (s c) n _ (place c).fits);
    }

pub returns-clause-event : goal.returns-clause-event
returns-clause-event c = record {
  plans = ap (λ (v : CoreData). v.plans) c.self.view_is;
  past = c.push.ensures.events ∙ ap (λ (v : CoreData). Finish (s c) c.order-order.result ∷ v.past) c.self.view_is ∙ ap (λ (event : Event). event ∷ c.args.self.now.past) (event_is c);
  books = books_stay (now c).desks (s c) c.finish-2.new.desk (place c).desk (ap (λ (desk : DeskData). desk.book) (came c)) ∙ ap (λ (v : CoreData). v.books) c.self.view_is;
}

pub returns-clause-outs : goal.returns-clause-outs
returns-clause-outs c =
    outs_set (now c).desks (s c) c.finish-2.new.desk ∙ ap (λ (desk : DeskData). with_out (seen (now c)).outs (s c) desk.out) (came c)
    ∙ ap (λ (v : CoreData). with_out v.outs (s c) at_home) c.self.view_is ∙ ap (λ (s : ℕ). with_out c.args.self.now.outs s at_home) c.stream-stream.ensures
