use Rattle.std.proofs.Common.{◌≡◌, ◌+◌, ◌^◌, ◌<◌, ℕ, true, Some, List, ◌∷◌, refl, ap, sym, subst, ◌∙◌, arith}
use Rattle.std.specs.Prelude.{slice_get, unwrap_or, Option}
use Rattle.gpu_plan.specs.declared.plan.Action.{Action}
use Rattle.gpu_plan.specs.Plans.{PlanData, plan_of}
use Rattle.gpu_plan.specs.Places.{flush_places}
use Rattle.sync_core.specs.Standing.{is_open}
use Rattle.sync_core.specs.Events.{Ordered}
use Rattle.sync_core.specs.Core.{StandsFor}
use Rattle.gpu_journal.specs.declared.event.Event.{Event}
use Rattle.gpu_journal.specs.declared.event.Event.TheVariants.{Order}
use Rattle.gpu_journal.specs.World.{known}
use Rattle.gpu_journal.specs.Waits.{sync_of, standing_of, drawn, fences_in}
use Rattle.gpu_journal.specs.Serial.{order_event}
use Rattle.gpu_journal.proofs.Worlds.{images_then}
use Rattle.gpu_journal.proofs.Following.{plan_here}
use Rattle.serial_laws.proofs.Obeying.{order_obeys}
use Rattle.serial_laws.proofs.Needs.{need_order}
use Rattle.serial_laws.proofs.Ended.{next_open}
use Rattle.house_core.specs.Desks.{DeskData, desk_at}
use Rattle.house_core.specs.Core.{CoreData}
use Rattle.house_core.specs.Invariant.{Parts, DeskFits}
use Rattle.house_core.proofs.Rows.{books_stay, outs_stay}
use Rattle.house_core.proofs.Fits.{fits_order}
use Rattle.house_core.proofs.Again.{Place, seats_stay, goes_on}
use Rattle.house_core.proofs.Seen.{parts_of, place_seen}
use Rattle.house_core.proofs.Ordering.{next_placed}
use Rattle.house_core.proofs.Rooms.{room_of_order}
use Rattle.house_core.proofs.core_of.Core.order.Goals as goal

module _ (c : goal.After-push) where
  abbrev now : Parts
  now = parts_of c.self.inside

  abbrev s : ℕ
  s = c.args.stream

  place : Place now s
  place = place_seen now _ s c.self.view_is c.self.invariant c.requires.known

  next : slice_get (flush_places (plan_of now.plans s).actions) (known now.plans now.past s).ordered ≡ Some c.in-Some.place
  next = next_placed now s c.ordered.result c.in-Some.place c.index-desk.result.now _ c.place.result place c.index-desk.ensures c.ordered.ensures c.place.ensures c.in-Some.is

  abbrev event : Event
  event = Order s (drawn now.plans now.past + 1) c.in-Some.place

  number : c.in_ok-order.order ≡ drawn now.plans now.past + 1
  number = c.in_ok-order.ensures.number ∙ ap (λ (n : ℕ). n + 1) c.self.invariant.sync.drawn

  past : c.push.new.self.events ≡ event ∷ now.past
  past = c.push.ensures.events ∙ ap (λ (n : ℕ). Order s n c.in-Some.place ∷ c.take_room.new.journal.events) number ∙ ap (λ (h : List Event). event ∷ h) c.take_room.ensures.past

  fences : c.fences_at-fences.result.now ≡ fences_in (slice_get (plan_of now.plans s).actions c.in-Some.place)
  fences =
      let actions = ap (λ (plan : PlanData). plan.actions) (sym (plan_here now.plans s c.plan.result.now c.requires.known.0 c.plan.ensures)) in
      c.fences_at-fences.ensures ∙ ap (λ (actions : List Action). fences_in (slice_get actions c.in-Some.place)) actions

  came : c.order-2.new.self ≡ record (desk_at now.desks s) { ordered = (desk_at now.desks s).ordered + 1 }
  came = c.order-2.ensures ∙ ap (λ (desk : DeskData). record desk { ordered = desk.ordered + 1 }) (c.index_mut-desk.ensures.value ∙ place.there _)

  stays : is_open (standing_of now.plans now.past s) ≡ true
  stays = next_open now.plans now.past s c.in-Some.place c.self.invariant.legal next
      (sym place.fits.lost ∙ ap (λ (desk : DeskData). desk.lost) (sym (place.there _)) ∙ ap (λ (desk : DeskData). desk.lost) (sym c.index-desk.ensures) ∙ sym c.is_lost.ensures ∙ c.if-is_lost.false)

pub order-requires-clause-room : goal.order-requires-clause-room
order-requires-clause-room c = (room_of_order (parts_of c.self.inside) _ c.args.stream c.self.view_is c.self.invariant c.requires.known).0

pub order-requires-2 : goal.order-requires-2
order-requires-2 c =
    let place = place_seen (parts_of c.self.inside) _ c.args.stream c.self.view_is c.self.invariant c.requires.known in
    let room = (room_of_order (parts_of c.self.inside) _ c.args.stream c.self.view_is c.self.invariant c.requires.known).1 in
    subst (λ (desk : DeskData). desk.ordered + 1 < 2 ^ 32) (sym (c.index_mut-desk.ensures.value ∙ place.there _)) room

pub invariant_of-self-2 : goal.invariant_of-self-2
invariant_of-self-2 c =
    let p = (now c).plans in
    let h = (now c).past in
    let was = c.self.invariant in
    let more = need_order p h (s c) (drawn p h + 1) c.in-Some.place in
    let room = c.in_ok-take_room.ensures.room in
    goes_on (now c) _ (event c) c.order-2.new.self was (place c) record {
      plans = refl;
      past = past c;
      obeys = order_obeys p h (s c) c.in-Some.place (record { known = (place c).plan; stays = stays c }) (next c);
      stands = subst (λ (fences : List (ℕ × ℕ)). StandsFor c.order.new.self ((s c, Ordered fences) ∷ sync_of p h)) (fences c) (c.in_ok-order.ensures.stands (sync_of p h) was.sync);
      count = c.in_ok-order.ensures.count;
      endings = c.shows_room.ensures;
      images = was.images ∙ sym (images_then p (event c) h);
      owed = omega (arith, more);
      spare = let left = c.push.ensures.spare in omega (arith, room, left);
      desks = refl;
      seats = seats_stay (now c) (s c) c.order-2.new.self (place c) (ap (λ (desk : DeskData). desk.out.order) (came c));
      fits = subst (DeskFits p (event c ∷ h) (s c)) (sym (came c)) (fits_order p h (s c) (drawn p h + 1) c.in-Some.place _ (place c).fits);
    }

pub returns-clause-event : goal.returns-clause-event
returns-clause-event c = record {
  plans = ap (λ (v : CoreData). v.plans) c.self.view_is;
  past = past c
      ∙ ap (λ (found : Option ℕ). Order (s c) (drawn (now c).plans (now c).past + 1) (unwrap_or found 0) ∷ (now c).past) (sym (next c))
      ∙ ap (λ (v : CoreData). order_event v.plans v.past (s c) ∷ v.past) c.self.view_is;
  books = books_stay (now c).desks (s c) c.order-2.new.self (place c).desk (ap (λ (desk : DeskData). desk.book) (came c)) ∙ ap (λ (v : CoreData). v.books) c.self.view_is;
}

pub returns-clause-outs : goal.returns-clause-outs
returns-clause-outs c = outs_stay (now c).desks (s c) c.order-2.new.self (place c).desk (ap (λ (desk : DeskData). desk.out) (came c)) ∙ ap (λ (v : CoreData). v.outs) c.self.view_is
