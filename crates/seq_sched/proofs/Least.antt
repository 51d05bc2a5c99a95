-- The least of the streams that can run.
use Rattle.std.proofs.Common.{◌≡◌, ℕ, zero, suc, ◌≤◌, eqb, Bool, true, false, ◌&&◌, ◌||◌, cond, List, length, Option, Some, None, refl, sym, ap, subst, arith}
use Rattle.std.specs.Prelude.{nat_lt, option_map, IfSome, IsNone}
use Rattle.std.proofs.lemmas.Bool.Decides.{nat_tests}
use Rattle.sync_core.specs.Standing.{IsKnown}
use Rattle.sync_core.specs.Core.{Core}
use Rattle.seq_sched.specs.declared.seat.Seat.{Seat}
use Rattle.seq_sched.specs.declared.seat.Runner.{Runner}
use Rattle.seq_sched.specs.Seats.{seat_of}
use Rattle.seq_sched.specs.Choice.{can_run, runner_of, goes_before, lesser, least, least_runnable, IsChoice, NoneCanRun}

-- what holds of the streams 1 to k and of the next holds of all
pub upto : (P : ℕ → Type 0) (k : ℕ) → ((t : ℕ) → IsKnown k t → P t) → P (suc k) → (t : ℕ) → IsKnown (suc k) t → P t
upto P k all last t known = by (eqb t (suc k)) refl
  where
    by : (b : Bool) → eqb t (suc k) ≡ b → P t
    by true e = let same : t ≡ suc k = grind (arith, nat_tests) in subst P (sym same) last
    by false e = let low = known.0 in let high = known.1 in all t (omega arith, within t k high e)
      where
        within : (a b : ℕ) → a ≤ suc b → eqb a (suc b) ≡ false → a ≤ b
        within a b le e = grind (arith, nat_tests)

before_itself : (a : Runner) → goes_before a a ≡ false
before_itself a = by a.priority a.front
  where
    by : (p f : ℕ) → (nat_lt p p || (eqb p p && nat_lt f f)) ≡ false
    by p f = grind (arith, nat_tests)

-- what goes before one that goes before a third goes before the third
before_third : (a b c : Runner) → goes_before a b ≡ true → goes_before b c ≡ true → goes_before a c ≡ true
before_third a b c x y = by a.priority b.priority c.priority a.front b.front c.front x y
  where
    by : (p q r f g h : ℕ) → (nat_lt p q || (eqb p q && nat_lt f g)) ≡ true → (nat_lt q r || (eqb q r && nat_lt g h)) ≡ true → (nat_lt p r || (eqb p r && nat_lt f h)) ≡ true
    by p q r f g h x y = grind (arith, nat_tests)

-- what the least of the streams 1 to k is
abbrev IsLeastOf : List Seat → Core → ℕ → Option Runner → Type 0
IsLeastOf seats core k None = (t : ℕ) → IsKnown k t → can_run (seat_of seats t) core t ≡ false
IsLeastOf seats core k (Some r) = (s : ℕ) × IsKnown k s × (r ≡ runner_of (seat_of seats s) core s) × (can_run (seat_of seats s) core s ≡ true) × ((t : ℕ) → IsKnown k t → can_run (seat_of seats t) core t ≡ true → goes_before (runner_of (seat_of seats t) core t) r ≡ false)

pub least_is : (seats : List Seat) (core : Core) (k : ℕ) → IsLeastOf seats core k (least seats core k)
least_is seats core zero = λ t known. let low = known.0 in let high = known.1 in absurd (omega arith)
least_is seats core (suc k) = step (least seats core k) (least_is seats core k) (can_run (seat_of seats (suc k)) core (suc k)) refl
  where
    next : Runner
    next = runner_of (seat_of seats (suc k)) core (suc k)

    runs : ℕ → Bool
    runs t = can_run (seat_of seats t) core t

    step : (o : Option Runner) → IsLeastOf seats core k o → (b : Bool) → can_run (seat_of seats (suc k)) core (suc k) ≡ b
        → IsLeastOf seats core (suc k) (lesser o (cond b (Some (runner_of (seat_of seats (suc k)) core (suc k))) None))
    step None w true e = (
      suc k,
      (omega arith, omega arith),
      refl,
      e,
      upto (λ t. can_run (seat_of seats t) core t ≡ true → goes_before (runner_of (seat_of seats t) core t) (runner_of (seat_of seats (suc k)) core (suc k)) ≡ false) k
          (λ t known run. let off = w t known in absurd (cc)) (λ run. before_itself (runner_of (seat_of seats (suc k)) core (suc k))),
    )
    step None w false e = upto (λ t. can_run (seat_of seats t) core t ≡ false) k w e
    step (Some r) w true e = by (goes_before (runner_of (seat_of seats (suc k)) core (suc k)) r) refl
      where
        not_before : (t : ℕ) → goes_before (runner_of (seat_of seats (suc k)) core (suc k)) r ≡ true → goes_before (runner_of (seat_of seats t) core t) r ≡ false → (b : Bool)
            → goes_before (runner_of (seat_of seats t) core t) (runner_of (seat_of seats (suc k)) core (suc k)) ≡ b → b ≡ false
        not_before t down off true e = let up = before_third (runner_of (seat_of seats t) core t) (runner_of (seat_of seats (suc k)) core (suc k)) r e down in absurd (cc)
        not_before t down off false e = refl

        by : (b : Bool) → goes_before (runner_of (seat_of seats (suc k)) core (suc k)) r ≡ b
            → IsLeastOf seats core (suc k) (cond b (Some (runner_of (seat_of seats (suc k)) core (suc k))) (Some r))
        by true down = (
          suc k,
          (omega arith, omega arith),
          refl,
          e,
          upto (λ t. can_run (seat_of seats t) core t ≡ true → goes_before (runner_of (seat_of seats t) core t) (runner_of (seat_of seats (suc k)) core (suc k)) ≡ false) k
              (λ t known run. not_before t down (w.4 t known run) _ refl) (λ run. before_itself (runner_of (seat_of seats (suc k)) core (suc k))),
        )
        by false off = (
          w.0,
          (let low = w.1.0 in low, let high = w.1.1 in omega arith),
          w.2,
          w.3,
          upto (λ t. can_run (seat_of seats t) core t ≡ true → goes_before (runner_of (seat_of seats t) core t) r ≡ false) k w.4 (λ run. off),
        )
    step (Some r) w false e = (
      w.0,
      (let low = w.1.0 in low, let high = w.1.1 in omega arith),
      w.2,
      w.3,
      upto (λ t. can_run (seat_of seats t) core t ≡ true → goes_before (runner_of (seat_of seats t) core t) r ≡ false) k w.4 (λ run. absurd (cc)),
    )

-- the choice is one
pub choice_is : (seats : List Seat) (core : Core) → IfSome (least_runnable seats core) (IsChoice seats core)
choice_is seats core = by (least seats core (length seats)) (least_is seats core (length seats))
  where
    by : (o : Option Runner) → IsLeastOf seats core (length seats) o → IfSome (option_map (λ (r : Runner). r.stream) o) (IsChoice seats core)
    by None w = tt
    by (Some r) w =
        let same : r.stream ≡ w.0 = ap (λ (x : Runner). x.stream) w.2 in
        subst (IsChoice seats core) (sym same) (record { known = w.1; runs = w.3; first = λ t known run. subst (λ (x : Runner). goes_before (runner_of (seat_of seats t) core t) x ≡ false) w.2 (w.4 t known run) })

-- and there is none exactly where no stream can run
pub choice_none : (seats : List Seat) (core : Core) → (IsNone (least_runnable seats core) → NoneCanRun seats core) × (NoneCanRun seats core → IsNone (least_runnable seats core))
choice_none seats core = by (least seats core (length seats)) (least_is seats core (length seats))
  where
    by : (o : Option Runner) → IsLeastOf seats core (length seats) o → (IsNone (option_map (λ (r : Runner). r.stream) o) → NoneCanRun seats core) × (NoneCanRun seats core → IsNone (option_map (λ (r : Runner). r.stream) o))
    by None w = (λ n. w, λ none. refl)
    by (Some r) w = (λ n. absurd (cc), λ none. let off = none w.0 w.1 in let on = w.3 in absurd (cc))
