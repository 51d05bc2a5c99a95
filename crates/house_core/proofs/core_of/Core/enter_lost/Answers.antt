use Rattle.std.proofs.Common.{◌≡◌, ℕ, List, true, ◌∷◌, refl, ap, sym, subst, ◌∙◌, arith}
use Rattle.gpu_journal.specs.declared.event.Event.{Event}
use Rattle.gpu_journal.specs.declared.event.Event.TheVariants.{Lost}
use Rattle.gpu_journal.specs.Waits.{sync_of}
use Rattle.gpu_journal.specs.Legal.{Obeys}
use Rattle.gpu_journal.proofs.Worlds.{images_then}
use Rattle.serial_laws.proofs.Needs.{need_lost}
use Rattle.house_core.specs.Desks.{DeskData, desk_at}
use Rattle.house_core.specs.Core.{CoreData}
use Rattle.house_core.specs.Invariant.{Parts, DeskFits}
use Rattle.house_core.proofs.Rows.{books_stay, outs_stay}
use Rattle.house_core.proofs.Fits.{fits_lost}
use Rattle.house_core.proofs.Again.{Place, seats_stay, goes_on}
use Rattle.house_core.proofs.Seen.{parts_of, place_seen}
use Rattle.house_core.proofs.Rooms.{counts_fit, room_of_end}
use Rattle.house_core.proofs.core_of.Core.enter_lost.Goals as goal

pub unfinished-requires : goal.unfinished-requires
unfinished-requires c =
    let place = place_seen _ _ c.args.stream c.self.view_is c.self.invariant c.requires.open.known in
    let read = c.index_mut-desk.ensures.value ∙ place.there _ in
    rw read (counts_fit _ c.args.stream c.self.invariant place)

pub overflow_sub-owed : goal.overflow_sub-owed
overflow_sub-owed c = (room_of_end _ _ c.args.stream c.unfinished.result _ _ c.self.view_is c.self.invariant c.requires.open c.index_mut-desk.ensures.value c.unfinished.ensures).1

pub push-requires-clause-spare : goal.push-requires-clause-spare
push-requires-clause-spare c =
    let room = (room_of_end _ _ c.args.stream c.unfinished.result _ _ c.self.view_is c.self.invariant c.requires.open c.index_mut-desk.ensures.value c.unfinished.ensures).1 in
    let all = c.self.invariant.spare in
    let same = c.reserve_words.ensures.spare in
    omega (arith, room, all, same)

module _ (c : goal.After-push) where
  abbrev now : Parts
  now = parts_of c.self.inside

  place : Place now c.args.stream
  place = place_seen now _ c.args.stream c.self.view_is c.self.invariant c.requires.open.known

  abbrev event : Event
  event = Lost c.args.stream c.args.why c.args.words.now

  past : c.push.new.self.events ≡ event ∷ now.past
  past = c.push.ensures.events ∙ ap (λ (words : List (ℕ × ℕ)). Lost c.args.stream c.args.why words ∷ c.reserve_words.new.self.events) c.of.ensures ∙ ap (λ (h : List Event). event ∷ h) c.reserve_words.ensures.events

  -- the desk is lost
  came : c.lose.new.self ≡ record (desk_at now.desks c.args.stream) { lost = true }
  came = c.lose.ensures ∙ ap (λ (desk : DeskData). record desk { lost = true }) (c.index_mut-desk.ensures.value ∙ place.there _)

pub invariant_of-self-2 : goal.invariant_of-self-2
invariant_of-self-2 c =
    let p = (now c).plans in
    let h = (now c).past in
    let s = c.args.stream in
    let was = c.self.invariant in
    let none = need_lost p h s c.args.why c.args.words.now in
    let room = room_of_end _ _ s c.unfinished.result _ _ c.self.view_is was c.requires.open c.index_mut-desk.ensures.value c.unfinished.ensures in
    goes_on (now c) _ (event c) c.lose.new.self was (place c) record {
      plans = refl;
      past = past c;
      obeys = subst (λ (v : CoreData). Obeys v.plans v.past (event c)) (sym c.self.view_is) c.requires.obeys;
      stands = c.lose-2.ensures.stands (sync_of p h) was.sync;
      count = c.lose-2.ensures.count;
      endings = c.shows_room.ensures;
      images = was.images ∙ sym (images_then p (event c) h);
      owed = let need = room.0 in let all = room.1 in omega (arith, none, need, all);
      spare = let all = room.1 in let most = was.spare in let same = c.reserve_words.ensures.spare in let left = c.push.ensures.spare in omega (arith, all, most, same, left);
      desks = refl;
      seats = seats_stay (now c) s c.lose.new.self (place c) (ap (λ (desk : DeskData). desk.out.order) (came c));
      fits = subst (DeskFits p (event c ∷ h) s) (sym (came c)) (fits_lost p h s c.args.why c.args.words.now _ (place c).fits);
    }

pub returns-clause-event : goal.returns-clause-event
returns-clause-event c = record {
  plans = ap (λ (v : CoreData). v.plans) c.self.view_is;
  past = past c ∙ ap (λ (v : CoreData). event c ∷ v.past) c.self.view_is;
  books = books_stay (now c).desks c.args.stream c.lose.new.self (place c).desk (ap (λ (desk : DeskData). desk.book) (came c)) ∙ ap (λ (v : CoreData). v.books) c.self.view_is;
}

pub returns-clause-outs : goal.returns-clause-outs
returns-clause-outs c = outs_stay (now c).desks c.args.stream c.lose.new.self (place c).desk (ap (λ (desk : DeskData). desk.out) (came c)) ∙ ap (λ (v : CoreData). v.outs) c.self.view_is
