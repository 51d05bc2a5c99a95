-- A new core keeps the invariant.
use Rattle.std.proofs.Common.{◌≡◌, ℕ, zero, suc, ◌<◌, ◌≤◌, eqb, true, List, [], ◌∷◌, length, map, get_or, replicate, refl, sym, ap, subst, ◌∙◌, arith}
use Rattle.std.proofs.lemmas.List.{length-map, get_or-map}
use Rattle.atomic_table.specs.Seated.{TableId}
use Rattle.gpu_books.specs.Seen.{no_book}
use Rattle.gpu_plan.specs.Plans.{PlansData, PlanData, plan_of, no_plan}
use Rattle.gpu_plan.specs.Places.{flush_places}
use Rattle.sync_core.specs.Standing.{IsKnown, nobody}
use Rattle.sync_core.specs.Events.{SyncEvent, standing}
use Rattle.sync_core.specs.Core.{Core, StandsFor, HasRoom}
use Rattle.sync_core.proofs.Targets.{waits_go_down}
use Rattle.seq_sched.specs.Seats.{all_home, seat_of}
use Rattle.seq_sched.specs.Seats as seats
use Rattle.gpu_journal.specs.World.{World, nothing_known}
use Rattle.gpu_journal.specs.Waits.{sync_of}
use Rattle.gpu_journal.specs.Serial.{rank}
use Rattle.gpu_journal.proofs.Worlds.{world_none, sync_none}
use Rattle.serial_laws.specs.Scripts.{AreLawfulPlans}
use Rattle.serial_laws.proofs.Needs.{needs_none}
use Rattle.house_core.specs.Desks.{Out, at_home, DeskData, fresh_desk, no_desk}
use Rattle.house_core.specs.Making.{desks_of}
use Rattle.house_core.proofs.Books.{books_told}
use Rattle.house_core.specs.Invariant.{DeskFits, CoreInvariant, seat_for}
use Rattle.house_core.proofs.Fits.{fits_so}

-- ---- the desks

desks_count : (plans : List PlanData) (books : List TableId) → length books ≡ length plans → length (desks_of plans books) ≡ length plans
desks_count [] books same = refl
desks_count (plan ∷ plans) [] same = absurd (omega (arith, same))
desks_count (plan ∷ plans) (book ∷ books) same = let rest = desks_count plans books (omega (arith, same)) in omega (arith, rest)

-- each desk is fresh, and has the flushes of its plan
desk_first : (plans : List PlanData) (books : List TableId) (k : ℕ) (other : DeskData) → length books ≡ length plans → k < length plans → get_or (desks_of plans books) k other ≡ fresh_desk (get_or books k no_book) (flush_places (get_or plans k no_plan).actions)
desk_first [] books k other same low = absurd (omega arith)
desk_first (plan ∷ plans) [] k other same low = absurd (omega (arith, same))
desk_first (plan ∷ plans) (book ∷ books) zero other same low = refl
desk_first (plan ∷ plans) (book ∷ books) (suc k) other same low = desk_first plans books k other (omega (arith, same)) (omega arith)

-- the books are those that were given
pub books_first : (plans : List PlanData) (books : List TableId) → length books ≡ length plans → map (λ (desk : DeskData). desk.book) (desks_of plans books) ≡ books
books_first [] [] same = refl
books_first [] (book ∷ books) same = absurd (omega (arith, same))
books_first (plan ∷ plans) [] same = absurd (omega (arith, same))
books_first (plan ∷ plans) (book ∷ books) same = ap (λ (rest : List TableId). book ∷ rest) (books_first plans books (omega (arith, same)))

-- and every stream is at home
pub outs_first : (plans : List PlanData) (books : List TableId) → length books ≡ length plans → map (λ (desk : DeskData). desk.out) (desks_of plans books) ≡ replicate (length plans) at_home
outs_first [] books same = refl
outs_first (plan ∷ plans) [] same = absurd (omega (arith, same))
outs_first (plan ∷ plans) (book ∷ books) same = ap (λ (rest : List Out). at_home ∷ rest) (outs_first plans books (omega (arith, same)))

-- ---- the invariant

fits_first : (p : PlansData) (s : ℕ) (book : TableId) → DeskFits p [] s (fresh_desk book (flush_places (plan_of p s).actions))
fits_first p s book =
    fits_so p [] s (fresh_desk book (flush_places (plan_of p s).actions)) nothing_known nobody (ap (λ (w : World). w.streams s) (world_none p)) (ap (λ (g : List SyncEvent). standing g s) (sync_none p))
    (record { state = refl; ordered = refl; finished = refl; greatest = refl; lost = refl; closed = refl }) refl record { below = omega arith; behind = refl } (λ out. absurd (omega arith))

abbrev pub ranks_of : List PlanData → List ℕ
ranks_of plans = map (λ (plan : PlanData). rank plan.priority) plans

homes_first : (p : PlansData) (books : List TableId) (s : ℕ) → length books ≡ length p.plans → IsKnown (length p.plans) s → seat_of (all_home (ranks_of p.plans)) s ≡ seat_for p (desks_of p.plans books) s
homes_first p books zero same is = absurd (let low = is.0 in omega arith)
homes_first p books (suc k) same is =
    let high = is.1 in
    let count = length-map p.plans (λ (plan : PlanData). rank plan.priority) in
    get_or-map (λ (n : ℕ). record { priority = n; home = true }) (ranks_of p.plans) k 0 seats.empty_seat (omega (arith, count, high))
    ∙ ap (λ (n : ℕ). record { priority = n; home = true }) (get_or-map (λ (plan : PlanData). rank plan.priority) p.plans k no_plan 0 (omega (arith, high)))
    ∙ ap (λ (desk : DeskData). record { priority = rank (get_or p.plans k no_plan).priority; home = eqb desk.out.order 0 }) (sym (desk_first p.plans books k no_desk same (omega (arith, high))))

pub core_first : (p : PlansData) (books : List TableId) (sync : Core) (spare : ℕ) → AreLawfulPlans p → length books ≡ length p.plans → length sync.streams ≡ length p.plans → StandsFor sync [] → length p.plans ≤ spare → HasRoom sync
    → CoreInvariant record { plans = p; past = []; spare = spare; owed = length p.plans; sync = sync; seats = all_home (ranks_of p.plans); images = []; desks = desks_of p.plans books }
core_first p books sync spare lawful same streams stands room endings =
    let desks = desks_of p.plans books in
    let states : (k : ℕ) (other : DeskData) → k < length desks → DeskFits p [] (suc k) (get_or desks k other) =
    λ k other low.
    let count = desks_count p.plans books same in
    subst (DeskFits p [] (suc k)) (sym (desk_first p.plans books k other same (omega (arith, count, low)))) (fits_first p (suc k) (get_or books k no_book)) in
    record {
      lawful = lawful;
      legal = tt;
      many = record {
        streams = streams;
        seats = length-map (ranks_of p.plans) _ ∙ length-map p.plans _;
        desks = desks_count p.plans books same;
      };
      sync = subst (StandsFor sync) (sym (sync_none p)) stands;
      images = ap (λ (w : World). w.images) (sym (world_none p));
      states = states;
      targets = waits_go_down (length p.plans) (sync_of p []);
      books = books_told p [] desks states;
      homes = λ s is. homes_first p books s same is;
      room = sym (needs_none p (length p.plans));
      spare = room;
      endings = endings;
    }
