-- An event keeps the invariant of the core, and so does a run that leaves or comes back.
use Rattle.std.proofs.Common.{◌≡◌, ℕ, suc, ◌+◌, ◌-◌, ◌≤◌, eqb, Bool, true, false, List, ◌∷◌, length, get_or, set, refl, sym, ap, subst, ◌∙◌, arith}
use Rattle.std.proofs.lemmas.Bool.{eqb-true}
use Rattle.std.proofs.lemmas.List.{length-set}
use Rattle.gpu_plan.specs.Plans.{plan_of}
use Rattle.sync_core.specs.Standing.{IsKnown}
use Rattle.sync_core.specs.Events.{happened}
use Rattle.sync_core.specs.Core.{StandsFor, HasRoom}
use Rattle.sync_core.proofs.Rows.{position_of}
use Rattle.sync_core.proofs.Targets.{waits_go_down}
use Rattle.seq_sched.specs.declared.seat.Seat.{Seat}
use Rattle.seq_sched.specs.Seats.{seat_of, with_home}
use Rattle.gpu_journal.specs.declared.event.Event.{Event}
use Rattle.gpu_journal.specs.World.{world, stream_in, replay}
use Rattle.gpu_journal.specs.Waits.{deed, sync_of}
use Rattle.gpu_journal.specs.Legal.{Obeys}
use Rattle.gpu_journal.specs.Serial.{rank}
use Rattle.gpu_journal.proofs.Worlds.{sync_then}
use Rattle.serial_laws.specs.Needs.{need}
use Rattle.serial_laws.specs.Choosing.{IsCoreOf}
use Rattle.serial_laws.proofs.Needs.{needs_event, need_within}
use Rattle.house_core.specs.Desks.{DeskData, desk_at, no_desk}
use Rattle.house_core.proofs.Books.{books_told}
use Rattle.house_core.specs.Invariant.{Parts, DeskFits, CoreInvariant, seat_for}
use Rattle.house_core.proofs.Fits.{fits_other}
use Rattle.house_core.proofs.Rows.{each_set, desk_there, desk_set_here, desk_set_other, seat_set_here, seat_set_other}

-- ---- the place of a stream

-- a stream of the plans stands in each row, its desk and its seat fit, and its need is a part of the room
pub record Place (c : Parts) (s : ℕ) : Type 0 where
  pub index : suc (s - 1) ≡ s
  pub plan : IsKnown (length c.plans.plans) s
  pub desk : IsKnown (length c.desks) s
  pub seat : IsKnown (length c.seats) s
  pub core : IsKnown (length c.sync.streams) s
  pub there : (other : DeskData) → get_or c.desks (s - 1) other ≡ desk_at c.desks s
  pub fits : DeskFits c.plans c.past s (desk_at c.desks s)
  pub home : seat_of c.seats s ≡ seat_for c.plans c.desks s
  pub need : need c.plans c.past s ≤ c.owed
  pub stands : IsCoreOf c.plans c.past c.sync

pub place_of : (c : Parts) (s : ℕ) → CoreInvariant c → IsKnown (length c.plans.plans) s → Place c s
place_of c s was known =
    let desk : IsKnown (length c.desks) s = subst (λ (n : ℕ). IsKnown n s) (sym was.many.desks) known in
    let at = position_of (length c.desks) s desk in
    let there = desk_there c.desks s no_desk desk in
    record {
      index = at.0;
      plan = known;
      desk = desk;
      seat = subst (λ (n : ℕ). IsKnown n s) (sym was.many.seats) known;
      core = subst (λ (n : ℕ). IsKnown n s) (sym was.many.streams) known;
      there = λ other. desk_there c.desks s other desk;
      fits = subst (DeskFits c.plans c.past s) there (subst (λ (t : ℕ). DeskFits c.plans c.past t (get_or c.desks (s - 1) no_desk)) at.0 (was.states (s - 1) no_desk at.1));
      home = was.homes s known;
      need = let w = need_within c.plans c.past (length c.plans.plans) s known in let r = was.room in omega arith;
      stands = record { count = was.many.streams; stands = was.sync };
    }

-- ---- the seats

-- the seats, once stream s has this desk
pub record AreSeated (c : Parts) (now : List Seat) (s : ℕ) (desk : DeskData) : Type 0 where
  pub count : length now ≡ length c.seats
  pub here : seat_of now s ≡ record { priority = rank (plan_of c.plans s).priority; home = eqb desk.out.order 0 }
  pub others : (t : ℕ) → eqb s t ≡ false → seat_of now t ≡ seat_of c.seats t

-- they are the same where its run is
pub seats_stay : (c : Parts) (s : ℕ) (desk : DeskData) → Place c s → desk.out.order ≡ (desk_at c.desks s).out.order → AreSeated c c.seats s desk
seats_stay c s desk place same = record {
  count = refl;
  here = place.home ∙ ap (λ (n : ℕ). record { priority = rank (plan_of c.plans s).priority; home = eqb n 0 }) (sym same);
  others = λ t off. refl;
}

-- else the scheduler set the seat of the stream
pub seats_move : (c : Parts) (now : List Seat) (s : ℕ) (desk : DeskData) (home : Bool) → Place c s → now ≡ with_home c.seats s home → eqb desk.out.order 0 ≡ home → AreSeated c now s desk
seats_move c now s desk home place moved same = record {
  count = ap length moved ∙ length-set c.seats (s - 1) _;
  here = ap (λ (row : List Seat). seat_of row s) moved ∙ seat_set_here c.seats s _ place.seat
      ∙ ap (λ (seat : Seat). record { priority = seat.priority; home = home }) place.home
      ∙ ap (λ (home : Bool). record { priority = rank (plan_of c.plans s).priority; home = home }) (sym same);
  others = λ t off. ap (λ (row : List Seat). seat_of row t) moved ∙ seat_set_other c.seats s t _ place.plan.0 off;
}

-- ---- what holds of every stream

-- each seat is that of its desk, where one was set
homes_again : (c : Parts) (now : List Seat) (s : ℕ) (desk : DeskData) → Place c s → AreSeated c now s desk → ((t : ℕ) → IsKnown (length c.plans.plans) t → seat_of c.seats t ≡ seat_for c.plans c.desks t)
    → (t : ℕ) → IsKnown (length c.plans.plans) t → seat_of now t ≡ seat_for c.plans (set c.desks (s - 1) desk) t
homes_again c now s desk place seated was t is = by (eqb s t) refl
  where
    with_desk : ℕ → DeskData → Seat
    with_desk t desk = record { priority = rank (plan_of c.plans t).priority; home = eqb desk.out.order 0 }

    by : (b : Bool) → eqb s t ≡ b → seat_of now t ≡ seat_for c.plans (set c.desks (s - 1) desk) t
    by true q =
        let here = seated.here ∙ ap (with_desk s) (sym (desk_set_here c.desks s desk place.desk)) in
        subst (λ (t : ℕ). seat_of now t ≡ seat_for c.plans (set c.desks (s - 1) desk) t) (eqb-true s t q) here
    by false q = seated.others t q ∙ was t is ∙ ap (with_desk t) (sym (desk_set_other c.desks s t desk place.plan.0 q))

-- ---- the invariant

-- what a call made of the parts of a core, where the journal has one event more, and the stream of that has this desk
pub record Turn (c now : Parts) (event : Event) (desk : DeskData) : Type 0 where
  pub plans : now.plans ≡ c.plans
  pub past : now.past ≡ event ∷ c.past
  pub obeys : Obeys c.plans c.past event
  pub stands : StandsFor now.sync (happened (stream_in event) (deed c.plans event (world c.plans c.past)) (sync_of c.plans c.past))
  pub count : length now.sync.streams ≡ length c.sync.streams
  pub images : now.images ≡ replay c.plans (event ∷ c.past)
  pub owed : now.owed + need c.plans c.past (stream_in event) ≡ c.owed + need c.plans (event ∷ c.past) (stream_in event)
  pub spare : now.owed ≤ now.spare
  pub endings : HasRoom now.sync
  pub desks : now.desks ≡ set c.desks (stream_in event - 1) desk
  pub seats : AreSeated c now.seats (stream_in event) desk
  pub fits : DeskFits c.plans (event ∷ c.past) (stream_in event) desk

-- after an event
pub goes_on : (c now : Parts) (event : Event) (desk : DeskData) → CoreInvariant c → Place c (stream_in event) → Turn c now event desk → CoreInvariant now
goes_on c now event desk was place turn =
    let p = c.plans in
    let h = c.past in
    let s = stream_in event in
    let plans = sym turn.plans in
    let past = sym turn.past in
    let desks = sym turn.desks in
    let states = each_set (DeskFits p h) (DeskFits p (event ∷ h)) c.desks s desk place.desk turn.fits (λ t other off fit. fits_other p event h t other off fit) was.states in
    subst CoreInvariant (λ j. record now { plans = plans j; past = past j; desks = desks j }) record {
      lawful = was.lawful;
      legal = (turn.obeys, was.legal);
      many = record {
        streams = turn.count ∙ was.many.streams;
        seats = turn.seats.count ∙ was.many.seats;
        desks = length-set c.desks (s - 1) desk ∙ was.many.desks;
      };
      sync = subst (StandsFor now.sync) (sym (sync_then p event h)) turn.stands;
      images = turn.images;
      states = states;
      targets = waits_go_down (length p.plans) (sync_of p (event ∷ h));
      books = books_told p (event ∷ h) (set c.desks (s - 1) desk) states;
      homes = homes_again c now.seats s desk place turn.seats was.homes;
      room = let a = was.room in let b = turn.owed in let all = needs_event p event h (length p.plans) place.plan in omega arith;
      spare = turn.spare;
      endings = turn.endings;
    }

-- where no event came, and stream s has this desk
pub stays : (c : Parts) (seats : List Seat) (s : ℕ) (desk : DeskData) → CoreInvariant c → Place c s → AreSeated c seats s desk → DeskFits c.plans c.past s desk
    → CoreInvariant record c { seats = seats; desks = set c.desks (s - 1) desk }
stays c seats s desk was place seated fits =
    let states = each_set (DeskFits c.plans c.past) (DeskFits c.plans c.past) c.desks s desk place.desk fits (λ t other off fit. fit) was.states in
    record {
      lawful = was.lawful;
      legal = was.legal;
      many = record { streams = was.many.streams; seats = seated.count ∙ was.many.seats; desks = length-set c.desks (s - 1) desk ∙ was.many.desks };
      sync = was.sync;
      images = was.images;
      states = states;
      targets = was.targets;
      books = books_told c.plans c.past (set c.desks (s - 1) desk) states;
      homes = homes_again c seats s desk place seated was.homes;
      room = was.room;
      spare = was.spare;
      endings = was.endings;
    }
