-- With all streams at home none is chosen only where no stream has a number.
use Rattle.std.proofs.Common.{◌≡◌, ℕ, zero, suc, ◌<◌, ◌≤◌, ◌⊎◌, inl, inr, Bool, true, false, ◌&&◌, not, List, [], ◌∷◌, length, get_or, refl, sym, ap, subst, ◌∙◌, arith}
use Rattle.std.specs.Prelude.{nat_lt, is_some, All, map, IsNone}
use Rattle.std.proofs.lemmas.List.Elements.{All-weaker, All-nil, All-cons, All-map}
use Rattle.std.proofs.lemmas.Bool.Decides.{nat_tests}
use Rattle.sync_core.specs.declared.wait.Number.{Number}
use Rattle.sync_core.specs.declared.wait.Wait.{Wait}
use Rattle.sync_core.specs.Standing.{Standing, nobody, at, IsKnown, first_order, front_of}
use Rattle.sync_core.specs.Events.{SyncEvent, standing}
use Rattle.sync_core.specs.Pending.{is_blocked, has_wait_of, pending}
use Rattle.sync_core.specs.Core.{Core, StandsFor, unprocessed_of, blocked}
use Rattle.sync_core.specs.Laws.{IsLeast}
use Rattle.sync_core.proofs.Numbers.{Rises, left_rises}
use Rattle.sync_core.proofs.Targets.{least_can_run}
use Rattle.seq_sched.specs.declared.seat.Seat.{Seat}
use Rattle.seq_sched.specs.Seats.{seat_of, AreHome}
use Rattle.seq_sched.specs.Choice.{least_runnable, NoneCanRun, NothingLeft}
use Rattle.seq_sched.proofs.Least.{upto, choice_none}

abbrev has_front : Core → ℕ → Bool
has_front core t = is_some (first_order (unprocessed_of core t))

-- s has the least first number of the streams 1 to k
abbrev HasLeast : Core → ℕ → ℕ → Type 0
HasLeast core k s = (has_front core s ≡ true) × IsKnown k s × ((t : ℕ) → IsKnown k t → has_front core t ≡ true → front_of (unprocessed_of core s) ≤ front_of (unprocessed_of core t))

-- one of them has the least first number, or none has a number
least_front : (core : Core) (k : ℕ) → ((t : ℕ) → IsKnown k t → has_front core t ≡ false) ⊎ ((s : ℕ) × HasLeast core k s)
least_front core zero = inl (λ t known. let low = known.0 in let high = known.1 in absurd (omega arith))
least_front core (suc k) = step (least_front core k) (has_front core (suc k)) refl
  where
    step : ((t : ℕ) → IsKnown k t → has_front core t ≡ false) ⊎ ((s : ℕ) × HasLeast core k s) → (b : Bool) → has_front core (suc k) ≡ b
        → ((t : ℕ) → IsKnown (suc k) t → has_front core t ≡ false) ⊎ ((s : ℕ) × HasLeast core (suc k) s)
    step (inl none) false e = inl (upto (λ t. has_front core t ≡ false) k none e)
    step (inl none) true e = inr (suc k, (e, (omega arith, omega arith), upto (λ t. has_front core t ≡ true → front_of (unprocessed_of core (suc k)) ≤ front_of (unprocessed_of core t)) k (λ t known some. let off = none t known in absurd (cc)) (λ some. omega arith)))
    step (inr w) false e = inr (w.0, (w.1.0, (let low = w.1.1.0 in low, let high = w.1.1.1 in omega arith), upto (λ t. has_front core t ≡ true → front_of (unprocessed_of core w.0) ≤ front_of (unprocessed_of core t)) k w.1.2 (λ some. absurd (cc))))
    step (inr w) true e = by (nat_lt (front_of (unprocessed_of core (suc k))) (front_of (unprocessed_of core w.0))) refl
      where
        by : (b : Bool) → nat_lt (front_of (unprocessed_of core (suc k))) (front_of (unprocessed_of core w.0)) ≡ b → ((t : ℕ) → IsKnown (suc k) t → has_front core t ≡ false) ⊎ ((s : ℕ) × HasLeast core (suc k) s)
        by true d =
            let lt = below (front_of (unprocessed_of core (suc k))) (front_of (unprocessed_of core w.0)) d in
            inr (suc k, (e, (omega arith, omega arith), upto (λ t. has_front core t ≡ true → front_of (unprocessed_of core (suc k)) ≤ front_of (unprocessed_of core t)) k (λ t known some. let le = w.1.2 t known some in omega arith) (λ some. omega arith)))
          where
            below : (a b : ℕ) → nat_lt a b ≡ true → a < b
            below a b e = grind (arith, nat_tests)
        by false d =
            let le = above (front_of (unprocessed_of core (suc k))) (front_of (unprocessed_of core w.0)) d in
            inr (w.0, (w.1.0, (let low = w.1.1.0 in low, let high = w.1.1.1 in omega arith), upto (λ t. has_front core t ≡ true → front_of (unprocessed_of core w.0) ≤ front_of (unprocessed_of core t)) k w.1.2 (λ some. le)))
          where
            above : (a b : ℕ) → nat_lt a b ≡ false → b ≤ a
            above a b e = grind (arith, nat_tests)

-- a stream is one of those of the row, or nothing is known of it
known_or : (xs : List Standing) (t : ℕ) → IsKnown (length xs) t ⊎ ((at xs t).left ≡ [])
known_or xs zero = inr refl
known_or xs (suc k) = by xs k
  where
    by : (xs : List Standing) (k : ℕ) → IsKnown (length xs) (suc k) ⊎ ((get_or xs k nobody).left ≡ [])
    by [] k = inr refl
    by (x ∷ xs) zero = inl (omega arith, omega arith)
    by (x ∷ xs) (suc k) = elim (by xs k) [ inl a ↦ (let high = a.1 in inl (omega arith, omega arith)) | inr e ↦ inr e ]

-- the least first number is below all numbers of a stream whose first number is no lower
all_above : (m : ℕ) (xs : List Number) → Rises xs → (is_some (first_order xs) ≡ true → m ≤ front_of xs) → All (λ j. m ≤ j) (map (λ (x : Number). x.order) xs)
all_above m [] up le = All-nil (λ j. m ≤ j)
all_above m (x ∷ xs) up le =
    let low : m ≤ x.order = le refl in
    All-cons (λ j. m ≤ j) x.order (map (λ (y : Number). y.order) xs) low
    (All-map (λ j. m ≤ j) (λ (y : Number). y.order) xs (All-weaker (λ (y : Number). x.order < y.order) (λ (y : Number). m ≤ y.order) (λ y lt. omega arith) xs up.0))

pub least_free : (core : Core) (h : List SyncEvent) (s : ℕ) → StandsFor core h → HasLeast core (length core.streams) s → blocked core s ≡ false
least_free core h s st w = by (unprocessed_of core s) refl w.0
  where
    of : (t : ℕ) → unprocessed_of core t ≡ (standing h t).left
    of t = ap (λ (x : Standing). x.left) (st.streams t)

    lowest : IsLeast h (front_of (unprocessed_of core s))
    lowest t = all_above (front_of (unprocessed_of core s)) (standing h t).left (left_rises h t) (λ some.
        let there : has_front core t ≡ true = ap (λ (xs : List Number). is_some (first_order xs)) (of t) ∙ some in
        subst (λ (xs : List Number). front_of (unprocessed_of core s) ≤ front_of xs) (of t)
        (elim (known_or core.streams t) [
          | inl known ↦ w.2 t known there
          | inr none ↦ (let off : has_front core t ≡ false = ap (λ (xs : List Number). is_some (first_order xs)) none in absurd (cc))
        ]))

    by : (xs : List Number) → unprocessed_of core s ≡ xs → is_some (first_order xs) ≡ true → is_blocked s xs core.pending ≡ false
    by [] e some = absurd (cc)
    by (x ∷ xs) e some =
        ap (λ (ws : List Wait). has_wait_of s x.order ws) st.pending
        ∙ ap (λ (k : ℕ). has_wait_of s k (pending (length core.streams) h)) (sym (ap front_of e))
        ∙ least_can_run (length core.streams) h s (front_of (unprocessed_of core s)) lowest

and_all : (a b c : Bool) → a ≡ true → b ≡ true → c ≡ false → (a && (b && not c)) ≡ true
and_all true true false x y z = refl
and_all true true true x y z = absurd (cc)
and_all true false c x y z = y
and_all false b c x y z = x

no_front : (xs : List Number) → is_some (first_order xs) ≡ false → xs ≡ []
no_front [] e = refl
no_front (x ∷ xs) e = absurd (cc)

off_first : (a b c : Bool) → b ≡ false → (a && (b && c)) ≡ false
off_first true true c e = absurd (cc)
off_first true false c e = refl
off_first false b c e = refl

pub idle : (seats : List Seat) (core : Core) (h : List SyncEvent) → length core.streams ≡ length seats → StandsFor core h → AreHome seats
    → (IsNone (least_runnable seats core) → NothingLeft core) × (NothingLeft core → IsNone (least_runnable seats core))
idle seats core h same st home = (
  λ none. nothing (least_front core (length core.streams)) ((choice_none seats core).0 none),
  λ empty. (choice_none seats core).1 (λ t known. off_first (seat_of seats t).home (has_front core t) (not (blocked core t)) (ap (λ (xs : List Number). is_some (first_order xs)) (empty t))),
)
  where
    nothing : ((t : ℕ) → IsKnown (length core.streams) t → has_front core t ≡ false) ⊎ ((s : ℕ) × HasLeast core (length core.streams) s) → NoneCanRun seats core → NothingLeft core
    nothing (inl none) stuck t = elim (known_or core.streams t) [ inl known ↦ no_front (unprocessed_of core t) (none t known) | inr e ↦ e ]
    nothing (inr w) stuck t =
        let known : IsKnown (length seats) w.0 = subst (λ (n : ℕ). IsKnown n w.0) same w.1.1 in
        let off = stuck w.0 known in
        let on = and_all (seat_of seats w.0).home (has_front core w.0) (blocked core w.0) (home w.0 known) w.1.0 (least_free core h w.0 st w.1) in
        absurd (cc)
