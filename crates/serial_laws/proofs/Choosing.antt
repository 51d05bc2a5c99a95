-- The choice among the streams at home is the one that the scheduler makes of its seats.
use Rattle.std.proofs.Common.{◌≡◌, ℕ, zero, suc, ◌≤◌, eqb, Bool, true, false, not, ◌&&◌, ◌||◌, cond, Option, Some, None, List, length, refl, ap, ◌∙◌, arith}
use Rattle.std.proofs.lemmas.Bool.{and_parts}
use Rattle.std.specs.Prelude.{nat_lt, is_some, option_map}
use Rattle.gpu_plan.specs.Plans.{PlansData, plan_of}
use Rattle.sync_core.specs.declared.wait.Number.{Number}
use Rattle.sync_core.specs.Standing.{IsKnown, first_order, front_of}
use Rattle.sync_core.specs.Core as cores
use Rattle.seq_sched.specs.declared.seat.Seat.{Seat}
use Rattle.seq_sched.specs.declared.seat.Runner.{Runner}
use Rattle.seq_sched.specs.Seats.{seat_of}
use Rattle.seq_sched.specs.Choice as seats
use Rattle.gpu_journal.specs.declared.event.Event.{Event}
use Rattle.gpu_journal.specs.Waits.{left_of, front}
use Rattle.gpu_journal.specs.Serial.{best, better, is_runnable, comes_before, choice, rank}
use Rattle.serial_laws.proofs.First.{best_passes, best_fails}
use Rattle.serial_laws.specs.Choosing.{choice_at_home, AreSeats, IsCoreOf}
use Rattle.serial_laws.specs.Outs.{NoneAtHome}
use Rattle.serial_laws.proofs.Cores.{core_left, core_front, core_blocked}

-- ---- tests that agree

-- the best of the streams that pass is the same for tests and orders that agree
pub best_same : (test test' : ℕ → Bool) (before : ℕ → ℕ → Bool) (n : ℕ) → ((t : ℕ) → IsKnown n t → test t ≡ test' t) → best test before n ≡ best test' before n
best_same test test' before zero same = refl
best_same test test' before (suc n) same =
    let rest = best_same test test' before n (λ t k. same t (k.0, (let le = k.1 in omega arith))) in
    ap (λ (b : Bool). better before (suc n) b (best test before n)) (same (suc n) (omega arith, omega arith)) ∙ ap (better before (suc n) (test' (suc n))) rest

-- there is none where none passes
pub best_none : (test : ℕ → Bool) (before : ℕ → ℕ → Bool) (n : ℕ) → ((t : ℕ) → IsKnown n t → test t ≡ false) → best test before n ≡ None
best_none test before zero none = refl
best_none test before (suc n) none =
    let rest = best_none test before n (λ t k. none t (k.0, (let le = k.1 in omega arith))) in
    ap (λ (b : Bool). better before (suc n) b (best test before n)) (none (suc n) (omega arith, omega arith)) ∙ ap (better before (suc n) false) rest

-- ---- the choice at home

-- with all streams at home it is the choice of the rule for one thread
pub all_home : (p : PlansData) (h : List Event) (at_home : ℕ → Bool) → ((t : ℕ) → IsKnown (length p.plans) t → at_home t ≡ true) → choice_at_home p h at_home ≡ choice p h
all_home p h at_home home = best_same (λ s. at_home s && is_runnable p h s) (is_runnable p h) (comes_before p h) (length p.plans) (λ t k. ap (λ (b : Bool). b && is_runnable p h t) (home t k))

-- what it chooses is a stream of the script that is at home and can run
pub chosen_runs : (p : PlansData) (h : List Event) (at_home : ℕ → Bool) (s : ℕ) → choice_at_home p h at_home ≡ Some s → IsKnown (length p.plans) s × (at_home s ≡ true) × (is_runnable p h s ≡ true)
chosen_runs p h at_home s e =
    let q = best_passes (λ t. at_home t && is_runnable p h t) (comes_before p h) (length p.plans) s e in
    let parts = and_parts (at_home s) (is_runnable p h s) q.0 in
    ((q.1, q.2), parts.0, parts.1)

-- where it chooses none, no stream at home can run
pub none_chosen : (p : PlansData) (h : List Event) (at_home : ℕ → Bool) → choice_at_home p h at_home ≡ None → (t : ℕ) → IsKnown (length p.plans) t → (at_home t && is_runnable p h t) ≡ false
none_chosen p h at_home e t k = best_fails (λ s. at_home s && is_runnable p h s) (comes_before p h) (length p.plans) e t k.0 k.1

-- and where no stream at home can run, it chooses none
pub none_passes : (p : PlansData) (h : List Event) (at_home : ℕ → Bool) → ((t : ℕ) → IsKnown (length p.plans) t → (at_home t && is_runnable p h t) ≡ false) → choice_at_home p h at_home ≡ None
none_passes p h at_home none = best_none (λ s. at_home s && is_runnable p h s) (comes_before p h) (length p.plans) none

pub none_at_home : NoneAtHome
none_at_home p h at_home = (none_chosen p h at_home, none_passes p h at_home)

-- ---- the scheduler's choice

module _ (p : PlansData) (h : List Event) (at_home : ℕ → Bool) (row : List Seat) (core : cores.Core) (seated : AreSeats p at_home row) (is_core : IsCoreOf p h core) where
  runs_same : (s : ℕ) → IsKnown (length p.plans) s → seats.can_run (seat_of row s) core s ≡ (at_home s && is_runnable p h s)
  runs_same s k =
      ap (λ (b : Bool). b && (is_some (first_order (cores.unprocessed_of core s)) && not (cores.blocked core s))) (seated.home s k)
      ∙ ap (λ (xs : List Number). at_home s && (is_some (first_order xs) && not (cores.blocked core s))) (core_left p h core is_core s)
      ∙ ap (λ (b : Bool). at_home s && (is_some (first_order (left_of p h s)) && not b)) (core_blocked p h core is_core s)

  abbrev runner : ℕ → Runner
  runner s = seats.runner_of (seat_of row s) core s

  before_same : (s t : ℕ) → IsKnown (length p.plans) s → IsKnown (length p.plans) t → seats.goes_before (runner s) (runner t) ≡ comes_before p h s t
  before_same s t a b =
      let q = seated.priority s a in
      let r = seated.priority t b in
      let f : front_of (cores.unprocessed_of core s) ≡ front p h s = core_front p h core is_core s in
      let g : front_of (cores.unprocessed_of core t) ≡ front p h t = core_front p h core is_core t in
      ap (λ (x : ℕ). nat_lt x (seat_of row t).priority || (eqb x (seat_of row t).priority && nat_lt (front_of (cores.unprocessed_of core s)) (front_of (cores.unprocessed_of core t)))) q
      ∙ ap (λ (x : ℕ). nat_lt (rank (plan_of p s).priority) x || (eqb (rank (plan_of p s).priority) x && nat_lt (front_of (cores.unprocessed_of core s)) (front_of (cores.unprocessed_of core t)))) r
      ∙ ap (λ (x : ℕ). nat_lt (rank (plan_of p s).priority) (rank (plan_of p t).priority) || (eqb (rank (plan_of p s).priority) (rank (plan_of p t).priority) && nat_lt x (front_of (cores.unprocessed_of core t)))) f
      ∙ ap (λ (x : ℕ). nat_lt (rank (plan_of p s).priority) (rank (plan_of p t).priority) || (eqb (rank (plan_of p s).priority) (rank (plan_of p t).priority) && nat_lt (front p h s) x)) g

  -- the lesser of two runners is the better of their streams
  lesser_same : (n : ℕ) (passes : Bool) (o : Option ℕ) → ((t : ℕ) → o ≡ Some t → seats.goes_before (runner n) (runner t) ≡ comes_before p h n t)
      → seats.lesser (option_map runner o) (cond passes (Some (runner n)) None) ≡ option_map runner (better (comes_before p h) n passes o)
  lesser_same n true None same = refl
  lesser_same n false None same = refl
  lesser_same n false (Some t) same = refl
  lesser_same n true (Some t) same = ap (λ (b : Bool). cond b (Some (runner n)) (Some (runner t))) (same t refl) ∙ by (comes_before p h n t)
    where
      by : (b : Bool) → cond b (Some (runner n)) (Some (runner t)) ≡ option_map runner (cond b (Some n) (Some t))
      by true = refl
      by false = refl

  least_same : (n : ℕ) → n ≤ length p.plans → seats.least row core n ≡ option_map runner (best (λ s. at_home s && is_runnable p h s) (comes_before p h) n)
  least_same zero le = refl
  least_same (suc n) le =
      let is : IsKnown (length p.plans) (suc n) = (omega arith, le) in
      let test : ℕ → Bool = λ s. at_home s && is_runnable p h s in
      ap (λ (o : Option Runner). seats.lesser o (seats.candidate (seat_of row (suc n)) core (suc n))) (least_same n (omega arith))
      ∙ ap (λ (b : Bool). seats.lesser (option_map runner (best test (comes_before p h) n)) (cond b (Some (runner (suc n))) None)) (runs_same (suc n) is)
      ∙ lesser_same (suc n) (test (suc n)) (best test (comes_before p h) n)
      (λ t q. let passed = best_passes test (comes_before p h) n t q in before_same (suc n) t is (passed.1, (let below = passed.2 in omega (arith, below, le))))

  pub scheduler_chooses : seats.least_runnable row core ≡ choice_at_home p h at_home
  scheduler_chooses =
      ap (λ (n : ℕ). option_map (λ (r : Runner). r.stream) (seats.least row core n)) seated.count
      ∙ ap (option_map (λ (r : Runner). r.stream)) (least_same (length p.plans) (omega arith)) ∙ stream_of (choice_at_home p h at_home)
    where
      stream_of : (o : Option ℕ) → option_map (λ (r : Runner). r.stream) (option_map runner o) ≡ o
      stream_of None = refl
      stream_of (Some s) = refl
