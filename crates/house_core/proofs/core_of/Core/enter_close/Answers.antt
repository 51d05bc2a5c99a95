use Rattle.std.proofs.Common.{◌≡◌, true, ◌∷◌, refl, ap, sym, subst, ◌∙◌, arith}
use Rattle.gpu_journal.specs.declared.event.Event.TheVariants.{Close}
use Rattle.gpu_journal.specs.Waits.{sync_of}
use Rattle.gpu_journal.specs.Legal.{MayClose}
use Rattle.gpu_journal.proofs.Worlds.{images_then}
use Rattle.serial_laws.proofs.Obeying.{close_obeys}
use Rattle.serial_laws.proofs.Needs.{need_close}
use Rattle.house_core.specs.Desks.{DeskData, desk_at}
use Rattle.house_core.specs.Core.{CoreData}
use Rattle.house_core.specs.Invariant.{Parts, DeskFits}
use Rattle.house_core.proofs.Rows.{books_stay, outs_stay}
use Rattle.house_core.proofs.Fits.{fits_close}
use Rattle.house_core.proofs.Again.{Place, seats_stay, goes_on}
use Rattle.house_core.proofs.Seen.{parts_of, place_seen}
use Rattle.house_core.proofs.Rooms.{counts_fit, room_of_end}
use Rattle.house_core.proofs.core_of.Core.enter_close.Goals as goal

pub unfinished-requires : goal.unfinished-requires
unfinished-requires c =
    let place = place_seen _ _ c.args.stream c.self.view_is c.self.invariant c.requires.may.still_open.known in
    let read = c.index_mut-desk.ensures.value ∙ place.there _ in
    rw read (counts_fit _ c.args.stream c.self.invariant place)

pub overflow_sub-owed : goal.overflow_sub-owed
overflow_sub-owed c = (room_of_end _ _ c.args.stream c.unfinished.result _ _ c.self.view_is c.self.invariant c.requires.may.still_open c.index_mut-desk.ensures.value c.unfinished.ensures).1

pub push-requires : goal.push-requires
push-requires c =
    let room = (room_of_end _ _ c.args.stream c.unfinished.result _ _ c.self.view_is c.self.invariant c.requires.may.still_open c.index_mut-desk.ensures.value c.unfinished.ensures).1 in
    let all = c.self.invariant.spare in
    omega (arith, room, all)

module _ (c : goal.After-push) where
  abbrev now : Parts
  now = parts_of c.self.inside

  place : Place now c.args.stream
  place = place_seen now _ c.args.stream c.self.view_is c.self.invariant c.requires.may.still_open.known

  -- the desk is closed
  came : c.close.new.self ≡ record (desk_at now.desks c.args.stream) { closed = true }
  came = c.close.ensures ∙ ap (λ (desk : DeskData). record desk { closed = true }) (c.index_mut-desk.ensures.value ∙ place.there _)

pub invariant_of-self : goal.invariant_of-self
invariant_of-self c =
    let p = (now c).plans in
    let h = (now c).past in
    let s = c.args.stream in
    let was = c.self.invariant in
    let event = Close s in
    let none = need_close p h s in
    let room = room_of_end _ _ s c.unfinished.result _ _ c.self.view_is was c.requires.may.still_open c.index_mut-desk.ensures.value c.unfinished.ensures in
    goes_on (now c) _ event c.close.new.self was (place c) record {
      plans = refl;
      past = c.push.ensures.events;
      obeys = close_obeys p h s (subst (λ (v : CoreData). MayClose v.plans v.past s) (sym c.self.view_is) c.requires.may);
      stands = c.close-2.ensures.stands (sync_of p h) was.sync;
      count = c.close-2.ensures.count;
      endings = c.shows_room.ensures;
      images = was.images ∙ sym (images_then p event h);
      owed = let need = room.0 in let all = room.1 in omega (arith, none, need, all);
      spare = let all = room.1 in let most = was.spare in let left = c.push.ensures.spare in omega (arith, all, most, left);
      desks = refl;
      seats = seats_stay (now c) s c.close.new.self (place c) (ap (λ (desk : DeskData). desk.out.order) (came c));
      fits = subst (DeskFits p (event ∷ h) s) (sym (came c)) (fits_close p h s _ (place c).fits);
    }

pub returns-clause-event : goal.returns-clause-event
returns-clause-event c = record {
  plans = ap (λ (v : CoreData). v.plans) c.self.view_is;
  past = c.push.ensures.events ∙ ap (λ (v : CoreData). Close c.args.stream ∷ v.past) c.self.view_is;
  books = books_stay (now c).desks c.args.stream c.close.new.self (place c).desk (ap (λ (desk : DeskData). desk.book) (came c)) ∙ ap (λ (v : CoreData). v.books) c.self.view_is;
}

pub returns-clause-outs : goal.returns-clause-outs
returns-clause-outs c = outs_stay (now c).desks c.args.stream c.close.new.self (place c).desk (ap (λ (desk : DeskData). desk.out) (came c)) ∙ ap (λ (v : CoreData). v.outs) c.self.view_is
