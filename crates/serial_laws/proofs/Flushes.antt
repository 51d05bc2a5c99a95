-- Flushes among actions, and where they stand.
use Rattle.std.proofs.Common.{◌≡◌, ℕ, zero, suc, ◌+◌, ◌-◌, ◌≤◌, ◌<◌, true, cond, IsTrue, List, [], ◌∷◌, length, take, Some, refl, sym, ap, ◌∙◌, arith}
use Rattle.std.specs.Prelude.{slice_get}
use Rattle.std.specs.List.{list_all}
use Rattle.std.proofs.lemmas.Bool.{and_parts}
use Rattle.gpu_plan.specs.declared.plan.Action.{Action}
use Rattle.gpu_plan.specs.declared.plan.Action.TheVariants.{Close}
use Rattle.gpu_plan.specs.Passes.{flush_count, flushes}
use Rattle.gpu_plan.specs.Plans.{stays_open}
use Rattle.gpu_plan.specs.Places.{flush_places_from, flush_places}
use Rattle.gpu_plan.proofs.Passing.{flushes_all, by_flush}

pub flushes_grow : (xs : List Action) (k m : ℕ) → k ≤ m → flushes (take k xs) ≤ flushes (take m xs)
flushes_grow [] zero m h = omega arith
flushes_grow [] (suc k) zero h = omega arith
flushes_grow [] (suc k) (suc m) h = omega arith
flushes_grow (x ∷ xs) zero m h = omega arith
flushes_grow (x ∷ xs) (suc k) zero h = absurd (omega arith)
flushes_grow (x ∷ xs) (suc k) (suc m) h = let r = flushes_grow xs k m (omega arith) in omega arith

-- after the end there is no flush
pub flushes_end : (xs : List Action) (k : ℕ) → length xs ≤ k → flushes (take k xs) ≡ flushes xs
flushes_end [] zero h = refl
flushes_end [] (suc k) h = refl
flushes_end (x ∷ xs) zero h = absurd (omega arith)
flushes_end (x ∷ xs) (suc k) h = let r = flushes_end xs k (omega arith) in ap (λ n. flush_count x + n) r

-- there is a place for each flush
place_from : (i : ℕ) (xs : List Action) (j : ℕ) → j < flushes xs → (c : ℕ) × (slice_get (flush_places_from i xs) j ≡ Some c)
place_from i [] j h = absurd (omega arith)
place_from i (x ∷ xs) zero h = by_flush (λ b n. 0 < n + flushes xs → (c : ℕ) × (slice_get (cond b (i ∷ flush_places_from (i + 1) xs) (flush_places_from (i + 1) xs)) 0 ≡ Some c)) x (λ l. (i, refl)) (λ l. place_from (i + 1) xs 0 (omega arith)) h
place_from i (x ∷ xs) (suc j) h = by_flush (λ b n. suc j < n + flushes xs → (c : ℕ) × (slice_get (cond b (i ∷ flush_places_from (i + 1) xs) (flush_places_from (i + 1) xs)) (suc j) ≡ Some c)) x (λ l. place_from (i + 1) xs j (omega arith)) (λ l. place_from (i + 1) xs (suc j) (omega arith)) h

pub flush_there : (xs : List Action) (j : ℕ) → j < flushes xs → (c : ℕ) × (slice_get (flush_places xs) j ≡ Some c)
flush_there xs j h = place_from 0 xs j h

-- a place is that of a flush there is
from_place : (i : ℕ) (xs : List Action) (j c : ℕ) → slice_get (flush_places_from i xs) j ≡ Some c → j < flushes xs
from_place i [] j c e = absurd (cc)
from_place i (x ∷ xs) zero c e = by_flush (λ b n. slice_get (cond b (i ∷ flush_places_from (i + 1) xs) (flush_places_from (i + 1) xs)) 0 ≡ Some c → 0 < n + flushes xs) x (λ q. omega arith) (λ q. let r = from_place (i + 1) xs 0 c q in omega arith) e
from_place i (x ∷ xs) (suc j) c e = by_flush (λ b n. slice_get (cond b (i ∷ flush_places_from (i + 1) xs) (flush_places_from (i + 1) xs)) (suc j) ≡ Some c → suc j < n + flushes xs) x (λ q. let r = from_place (i + 1) xs j c q in omega arith) (λ q. let r = from_place (i + 1) xs (suc j) c q in omega arith) e

pub flush_of_place : (xs : List Action) (j c : ℕ) → slice_get (flush_places xs) j ≡ Some c → j < flushes xs
flush_of_place xs j c e = from_place 0 xs j c e

-- a place does not lie before the first
above : (i : ℕ) (xs : List Action) (j c : ℕ) → slice_get (flush_places_from i xs) j ≡ Some c → i ≤ c
above i [] j c e = absurd (cc)
above i (x ∷ xs) zero c e = by_flush (λ b n. slice_get (cond b (i ∷ flush_places_from (i + 1) xs) (flush_places_from (i + 1) xs)) 0 ≡ Some c → i ≤ c) x (λ q. let same : i ≡ c = cc in omega arith) (λ q. let r = above (i + 1) xs 0 c q in omega arith) e
above i (x ∷ xs) (suc j) c e = by_flush (λ b n. slice_get (cond b (i ∷ flush_places_from (i + 1) xs) (flush_places_from (i + 1) xs)) (suc j) ≡ Some c → i ≤ c) x (λ q. let r = above (i + 1) xs j c q in omega arith) (λ q. let r = above (i + 1) xs (suc j) c q in omega arith) e

-- the flush of a number is before k where as many flushes are
below_from : (i : ℕ) (xs : List Action) (j c k : ℕ) → slice_get (flush_places_from i xs) j ≡ Some c → j < flushes (take k xs) → c < i + k
below_from i [] j c k e h = absurd (cc)
below_from i (x ∷ xs) j c zero e h = absurd (omega arith)
below_from i (x ∷ xs) zero c (suc k) e h = by_flush (λ b n. slice_get (cond b (i ∷ flush_places_from (i + 1) xs) (flush_places_from (i + 1) xs)) 0 ≡ Some c → 0 < n + flushes (take k xs) → c < i + suc k) x (λ q l. let same : i ≡ c = cc in omega arith) (λ q l. let r = below_from (i + 1) xs 0 c k q (omega arith) in omega arith) e h
below_from i (x ∷ xs) (suc j) c (suc k) e h = by_flush (λ b n. slice_get (cond b (i ∷ flush_places_from (i + 1) xs) (flush_places_from (i + 1) xs)) (suc j) ≡ Some c → suc j < n + flushes (take k xs) → c < i + suc k) x (λ q l. let r = below_from (i + 1) xs j c k q (omega arith) in omega arith) (λ q l. let r = below_from (i + 1) xs (suc j) c k q (omega arith) in omega arith) e h

pub place_below : (xs : List Action) (j c k : ℕ) → slice_get (flush_places xs) j ≡ Some c → j < flushes (take k xs) → c < k
place_below xs j c k e h = let r = below_from 0 xs j c k e h in omega arith

-- and as many flushes are before k where the flush is
after_from : (i : ℕ) (xs : List Action) (j c k : ℕ) → slice_get (flush_places_from i xs) j ≡ Some c → c < i + k → j < flushes (take k xs)
after_from i [] j c k e h = absurd (cc)
after_from i (x ∷ xs) j c zero e h = let a = above i (x ∷ xs) j c e in absurd (omega arith)
after_from i (x ∷ xs) zero c (suc k) e h = by_flush (λ b n. slice_get (cond b (i ∷ flush_places_from (i + 1) xs) (flush_places_from (i + 1) xs)) 0 ≡ Some c → 0 < n + flushes (take k xs)) x (λ q. omega arith) (λ q. let r = after_from (i + 1) xs 0 c k q (omega arith) in omega arith) e
after_from i (x ∷ xs) (suc j) c (suc k) e h = by_flush (λ b n. slice_get (cond b (i ∷ flush_places_from (i + 1) xs) (flush_places_from (i + 1) xs)) (suc j) ≡ Some c → suc j < n + flushes (take k xs)) x (λ q. let r = after_from (i + 1) xs j c k q (omega arith) in omega arith) (λ q. let r = after_from (i + 1) xs (suc j) c k q (omega arith) in omega arith) e

pub below_place : (xs : List Action) (j c k : ℕ) → slice_get (flush_places xs) j ≡ Some c → c < k → j < flushes (take k xs)
below_place xs j c k e h = after_from 0 xs j c k e (omega arith)

-- an action that is one flush more has the number of the flushes before it
pub flush_placed : (xs : List Action) (k : ℕ) → flushes (take (k + 1) xs) ≡ flushes (take k xs) + 1 → slice_get (flush_places xs) (flushes (take k xs)) ≡ Some k
flush_placed xs k more =
    let all = flushes_all xs (k + 1) in
    let c = flush_there xs (flushes (take k xs)) (omega (arith, more, all)) in
    let low = place_below xs (flushes (take k xs)) c.0 (k + 1) c.1 (omega (arith, more)) in
    let not_below : c.0 < k → ⊥ = λ lt. absurd (before c.0 c.1 lt) in
    c.1 ∙ ap Some (omega (arith, low, not_below))
  where
    before : (c : ℕ) → slice_get (flush_places xs) (flushes (take k xs)) ≡ Some c → c < k → ⊥
    before c e lt = let more = below_place xs (flushes (take k xs)) c k e lt in omega arith

-- of some first actions that all stay open, each does
each_stays : (xs : List Action) (k n : ℕ) (a : Action) → k < n → slice_get xs k ≡ Some a → IsTrue (list_all stays_open (take n xs)) → stays_open a ≡ true
each_stays [] k n a h e all = absurd (cc)
each_stays (x ∷ xs) k zero a h e all = absurd (omega arith)
each_stays (x ∷ xs) zero (suc n) a h e all = let is : x ≡ a = cc in ap stays_open (sym is) ∙ (and_parts (stays_open x) (list_all stays_open (take n xs)) all).0
each_stays (x ∷ xs) (suc k) (suc n) a h e all = each_stays xs k n a (omega arith) e (and_parts (stays_open x) (list_all stays_open (take n xs)) all).1

pub within : (xs : List Action) (k : ℕ) (a : Action) → slice_get xs k ≡ Some a → k < length xs
within [] k a e = absurd (cc)
within (x ∷ xs) zero a e = omega arith
within (x ∷ xs) (suc k) a e = let r = within xs k a e in omega arith

-- a Close stands at the end alone
pub close_is_last : (xs : List Action) (k : ℕ) → IsTrue (list_all stays_open (take (length xs - 1) xs)) → slice_get xs k ≡ Some Close → k + 1 ≡ length xs
close_is_last xs k all e =
    let lt = within xs k Close e in
    let not_before : k < length xs - 1 → ⊥ = λ less. let open' = each_stays xs k (length xs - 1) Close less e all in cc in
    omega arith

-- the last of them is no flush, so all flushes stand before it
pub flushes_before_close : (xs : List Action) (k : ℕ) → slice_get xs k ≡ Some Close → k + 1 ≡ length xs → flushes (take k xs) ≡ flushes xs
flushes_before_close [] k e h = absurd (cc)
flushes_before_close (x ∷ []) zero e h = let is : x ≡ Close = cc in ap (λ (a : Action). flushes (a ∷ [])) (sym is)
flushes_before_close (x ∷ y ∷ xs) zero e h = absurd (omega arith)
flushes_before_close (x ∷ xs) (suc k) e h = let r = flushes_before_close xs k e (omega arith) in ap (λ n. flush_count x + n) r

-- before the place of a flush stand no more flushes than its number among them, and after it there is an action
pub flushes_before : (xs : List Action) (j c : ℕ) → slice_get (flush_places xs) j ≡ Some c → (flushes (take c xs) ≤ j) × (c < length xs)
flushes_before xs j c e =
    let less = flush_of_place xs j c e in
    let whole = flushes_end xs (length xs) (omega arith) in
    let end = place_below xs j c (length xs) e (omega (arith, less, whole)) in
    let not_more : j < flushes (take c xs) → ⊥ = λ more. let below = place_below xs j c c e more in absurd (omega arith) in
    (omega arith, end)
