-- The stream that the scheduler chooses, and the run that leaves its desk.
use Rattle.std.proofs.Common.{◌≡◌, ℕ, zero, suc, ◌-◌, ◌<◌, eqb, false, Some, List, [], ◌∷◌, length, get_or, refl, sym, ap, ◌∙◌, arith}
use Rattle.std.specs.Prelude.{slice_get}
use Rattle.std.proofs.lemmas.Bool.Decides.{nat_tests}
use Rattle.std.proofs.lemmas.List.Elements.{All-head}
use Rattle.std.proofs.lemmas.Option.{get_or_from_slice_get}
use Rattle.gpu_plan.specs.Plans.{PlanData, PlansData, no_plan, plan_of}
use Rattle.gpu_plan.specs.Places.{flush_places}
use Rattle.stream_state.specs.State.{State, facts_of}
use Rattle.sync_core.specs.declared.wait.Number.{Number}
use Rattle.sync_core.specs.Standing.{IsKnown, first_order}
use Rattle.sync_core.specs.Core as cores
use Rattle.sync_core.proofs.Numbers.{Each, left_positive}
use Rattle.seq_sched.specs.declared.seat.Seat.{Seat}
use Rattle.seq_sched.specs.Choice as seats
use Rattle.gpu_journal.specs.declared.event.Event.{Event}
use Rattle.gpu_journal.specs.World.{known}
use Rattle.gpu_journal.specs.Waits.{sync_of, left_of}
use Rattle.gpu_journal.specs.Facts.{flush_of, put_in, put_of}
use Rattle.serial_laws.proofs.Obeying.{CanRun, can_run}
use Rattle.serial_laws.specs.Choosing.{choice_at_home, AreSeats}
use Rattle.serial_laws.proofs.Choosing.{scheduler_chooses, chosen_runs}
use Rattle.serial_laws.proofs.Cores.{core_left}
use Rattle.serial_laws.proofs.Fronts.{front_placed}
use Rattle.house_core.specs.Desks.{Out, DeskData, desk_at, run_of}
use Rattle.house_core.specs.Core.{is_home, outs_of, IsOfPlans, IsRunOf}
use Rattle.house_core.specs.Invariant.{Parts, CoreInvariant}
use Rattle.house_core.proofs.Rows.{out_at_desk}
use Rattle.house_core.proofs.Again.{Place, place_of}

-- ---- the choice

-- the seats are those of the streams whose desks are at home
pub seated : (c : Parts) → CoreInvariant c → AreSeats c.plans (is_home (outs_of c.desks)) c.seats
seated c was = record {
  count = was.many.seats;
  home = λ s known. ap (λ (seat : Seat). seat.home) (was.homes s known) ∙ ap (λ (out : Out). eqb out.order 0) (sym (out_at_desk c.desks s));
  priority = λ s known. ap (λ (seat : Seat). seat.priority) (was.homes s known);
}

-- so the scheduler makes the choice among those
pub chooses : (c : Parts) → CoreInvariant c → seats.least_runnable c.seats c.sync ≡ choice_at_home c.plans c.past (is_home (outs_of c.desks))
chooses c was = scheduler_chooses c.plans c.past (is_home (outs_of c.desks)) c.seats c.sync (seated c was) record { count = was.many.streams; stands = was.sync }

-- the facts of the stream that is chosen: it can run, and its next flush is that of its first number
pub record IsChosen (c : Parts) (s : ℕ) : Type 0 where
  pub place : Place c s
  pub runs : CanRun c.plans c.past s
  pub flush : slice_get (desk_at c.desks s).places (desk_at c.desks s).finished ≡ Some (flush_of c.plans c.past s)

pub chosen : (c : Parts) (s : ℕ) → CoreInvariant c → seats.least_runnable c.seats c.sync ≡ Some s → IsChosen c s
chosen c s was e =
    let q = chosen_runs c.plans c.past (is_home (outs_of c.desks)) s (sym (chooses c was) ∙ e) in
    let place = place_of c s was q.0 in
    let runs = can_run c.plans c.past s was.legal q.2 in
    record {
      place = place;
      runs = runs;
      flush = ap (λ (places : List ℕ). slice_get places (desk_at c.desks s).finished) place.fits.places ∙ ap (slice_get (flush_places (plan_of c.plans s).actions)) place.fits.finished ∙ front_placed c.plans c.past s was.legal runs.some;
    }

-- ---- the run

-- the first number of a stream, as the core has it, is that of the journal, and positive
pub first_of : (c : Parts) (s n : ℕ) → CoreInvariant c → Some n ≡ first_order (cores.unprocessed_of c.sync s) → first_order (left_of c.plans c.past s) ≡ Some n
first_of c s n was e = ap first_order (sym (core_left c.plans c.past c.sync (record { count = was.many.streams; stands = was.sync }) s)) ∙ sym e

pub first_positive : (p : PlansData) (h : List Event) (s n : ℕ) → first_order (left_of p h s) ≡ Some n → 0 < n
first_positive p h s n e = by (left_of p h s) (left_positive (sync_of p h) s) e
  where
    by : (xs : List Number) → Each (λ m. 0 < m) xs → first_order xs ≡ Some n → 0 < n
    by [] low e = absurd (cc)
    by (x ∷ xs) low e = let is : x.order ≡ n = cc in let one = All-head (λ (y : Number). 0 < y.order) x xs low in omega arith

-- a run that is out has an order number
pub not_none : (n : ℕ) → 0 < n → eqb n 0 ≡ false
not_none n some = grind (arith, nat_tests)

-- the plan of a stream
pub plan_there : (p : PlansData) (s : ℕ) (plan : PlanData) → IsKnown (length p.plans) s → slice_get p.plans (s - 1) ≡ Some plan → plan ≡ plan_of p s
plan_there p zero plan known e = absurd (let low = known.0 in omega arith)
plan_there p (suc k) plan known e = let same : suc k - 1 ≡ k = omega arith in sym (get_or_from_slice_get p.plans (suc k - 1) plan no_plan e) ∙ ap (λ (i : ℕ). get_or p.plans i no_plan) same

-- the run of the first number, from the flush that the desk finds and up to its put
pub record HasLeft (p : PlansData) (h : List Event) (s : ℕ) (desk : DeskData) (place put : ℕ) : Type 0 where
  pub plan : IsOfPlans p (run_of s (plan_of p s).areas place put desk)
  pub run : IsRunOf p h (run_of s (plan_of p s).areas place put desk)

pub leaves : (c : Parts) (s n place put : ℕ) → IsChosen c s → first_order (left_of c.plans c.past s) ≡ Some n → slice_get (desk_at c.desks s).places (desk_at c.desks s).finished ≡ Some place → put ≡ put_in (slice_get (plan_of c.plans s).actions place)
    → HasLeft c.plans c.past s (record (desk_at c.desks s) { out = record { order = n; paused = false } }) place put
leaves c s n place put is first found ends =
    let fits = is.place.fits in
    let same : Some place ≡ Some (flush_of c.plans c.past s) = sym found ∙ is.flush in
    let flush : place ≡ flush_of c.plans c.past s = cc in
    let put_is = ends ∙ ap (λ (k : ℕ). put_in (slice_get (plan_of c.plans s).actions k)) flush in
    record {
      plan = record {
        known = is.place.plan;
        areas = refl;
        place = ap (λ (places : List ℕ). slice_get places (desk_at c.desks s).finished) (sym fits.places) ∙ found;
        put = ends;
      };
      run = record {
        order = first;
        place = flush;
        facts = ap (λ (put : ℕ). facts_of (plan_of c.plans s).areas put (desk_at c.desks s).state) put_is ∙ ap (facts_of (plan_of c.plans s).areas (put_of c.plans c.past s)) fits.state;
        entries = ap (λ (state : State). state.entries) fits.state;
        finished = fits.finished;
        greatest = fits.greatest;
      };
    }
