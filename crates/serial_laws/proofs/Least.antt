-- The least unprocessed number of all.
use Rattle.std.proofs.Common.{◌≡◌, ◌≢◌, ℕ, zero, suc, ◌≤◌, ◌<◌, ◌⊎◌, inl, inr, Bool, true, false, not, ◌&&◌, nat_le, List, [], ◌∷◌, length, refl, sym, ap, subst, ◌∙◌, arith, IsSome}
use Rattle.std.proofs.lemmas.Bool.{not_from_false}
use Rattle.std.proofs.lemmas.Bool.Decides.{nat_tests}
use Rattle.std.proofs.lemmas.List.Elements.{All-nil, All-cons, All-weaker, All-map}
use Rattle.std.specs.Prelude.{is_some}
use Rattle.std.specs.List.{All}
use Rattle.gpu_plan.specs.Plans.{PlansData}
use Rattle.sync_core.specs.declared.wait.Number.{Number}
use Rattle.sync_core.specs.Standing.{first_order, front_of}
use Rattle.sync_core.specs.Pending.{is_blocked, has_wait_of}
use Rattle.sync_core.specs.Laws.{IsLeast}
use Rattle.sync_core.proofs.Numbers.{Rises, left_rises}
use Rattle.sync_core.proofs.Targets.{least_can_run}
use Rattle.gpu_journal.specs.declared.event.Event.{Event}
use Rattle.gpu_journal.specs.Waits.{sync_of, left_of, front, pending_in}
use Rattle.gpu_journal.specs.Legal.{IsLegal}
use Rattle.gpu_journal.specs.Serial.{is_runnable}
use Rattle.gpu_journal.proofs.Worlds.{known_of_left}
use Rattle.serial_laws.proofs.First.{nat_cases}

-- the stream of the least first number among the streams 1 to n, or that none has one
module _ (numbers : ℕ → List Number) where
  abbrev pub Found : ℕ → Type 0
  Found n = (s : ℕ) × (0 < s) × (s ≤ n) × (0 < length (numbers s)) × ((t : ℕ) → 0 < t → t ≤ n → 0 < length (numbers t) → front_of (numbers s) ≤ front_of (numbers t))

  abbrev pub Empty : ℕ → Type 0
  Empty n = (t : ℕ) → 0 < t → t ≤ n → length (numbers t) ≡ 0

  here_left : (n : ℕ) (a : ℕ) → length (numbers (suc n)) ≡ a → (a ≡ 0) ⊎ (0 < length (numbers (suc n)))
  here_left n zero e = inl refl
  here_left n (suc a) e = inr (omega arith)

  le_cases : (a b : ℕ) → (a ≤ b) ⊎ (b < a)
  le_cases a b = by (nat_le a b) refl
    where
      by : (x : Bool) → nat_le a b ≡ x → (a ≤ b) ⊎ (b < a)
      by true e = inl (grind (arith, nat_tests))
      by false e = inr (grind (arith, nat_tests))

  first_found : (n : ℕ) → Empty n → 0 < length (numbers (suc n)) → Found (suc n)
  first_found n e h = (suc n, omega arith, omega arith, h, λ t a b k. by t a b k (nat_cases t (suc n)))
    where
      by : (t : ℕ) → 0 < t → t ≤ suc n → 0 < length (numbers t) → (t ≡ suc n) ⊎ (t ≢ suc n) → front_of (numbers (suc n)) ≤ front_of (numbers t)
      by t a b k (inl is) = let q : front_of (numbers t) ≡ front_of (numbers (suc n)) = ap (λ (u : ℕ). front_of (numbers u)) is in omega arith
      by t a b k (inr d) = let z = e t a (omega arith) in absurd (omega arith)

  keep_found : (n : ℕ) (f : Found n) → (0 < length (numbers (suc n)) → front_of (numbers f.0) ≤ front_of (numbers (suc n))) → Found (suc n)
  keep_found n f h = (f.0, f.1, (let z = f.2 in omega arith), f.3, λ t a b k. by t a b k (nat_cases t (suc n)))
    where
      by : (t : ℕ) → 0 < t → t ≤ suc n → 0 < length (numbers t) → (t ≡ suc n) ⊎ (t ≢ suc n) → front_of (numbers f.0) ≤ front_of (numbers t)
      by t a b k (inl is) = let z = h (subst (λ (u : ℕ). 0 < length (numbers u)) is k) in let q : front_of (numbers t) ≡ front_of (numbers (suc n)) = ap (λ (u : ℕ). front_of (numbers u)) is in omega arith
      by t a b k (inr d) = f.4 t a (omega arith) k

  take_found : (n : ℕ) (f : Found n) → 0 < length (numbers (suc n)) → front_of (numbers (suc n)) < front_of (numbers f.0) → Found (suc n)
  take_found n f h l = (suc n, omega arith, omega arith, h, λ t a b k. by t a b k (nat_cases t (suc n)))
    where
      by : (t : ℕ) → 0 < t → t ≤ suc n → 0 < length (numbers t) → (t ≡ suc n) ⊎ (t ≢ suc n) → front_of (numbers (suc n)) ≤ front_of (numbers t)
      by t a b k (inl is) = let q : front_of (numbers t) ≡ front_of (numbers (suc n)) = ap (λ (u : ℕ). front_of (numbers u)) is in omega arith
      by t a b k (inr d) = let z = f.4 t a (omega arith) k in omega arith

  pub least_front : (n : ℕ) → Empty n ⊎ Found n
  least_front zero = inl (λ t a b. absurd (omega arith))
  least_front (suc n) = by (least_front n) (here_left n (length (numbers (suc n))) refl)
    where
      wide : Empty n → length (numbers (suc n)) ≡ 0 → (t : ℕ) → 0 < t → t ≤ suc n → (t ≡ suc n) ⊎ (t ≢ suc n) → length (numbers t) ≡ 0
      wide e z t a b (inl is) = ap (λ (u : ℕ). length (numbers u)) is ∙ z
      wide e z t a b (inr d) = e t a (omega arith)

      by : Empty n ⊎ Found n → (length (numbers (suc n)) ≡ 0) ⊎ (0 < length (numbers (suc n))) → Empty (suc n) ⊎ Found (suc n)
      by (inl e) (inl z) = inl (λ t a b. wide e z t a b (nat_cases t (suc n)))
      by (inl e) (inr h) = inr (first_found n e h)
      by (inr f) (inl z) = inr (keep_found n f (λ h. absurd (omega arith)))
      by (inr f) (inr h) = two (le_cases (front_of (numbers f.0)) (front_of (numbers (suc n))))
        where
          two : (front_of (numbers f.0) ≤ front_of (numbers (suc n))) ⊎ (front_of (numbers (suc n)) < front_of (numbers f.0)) → Empty (suc n) ⊎ Found (suc n)
          two (inl l) = inr (keep_found n f (λ _. l))
          two (inr l) = inr (take_found n f h l)

-- the first of numbers that rise is the least
first_least : (m : ℕ) (xs : List Number) → Rises xs → (0 < length xs → m ≤ front_of xs) → All (λ (x : Number). m ≤ x.order) xs
first_least m [] up f = All-nil (λ (x : Number). m ≤ x.order)
first_least m (x ∷ xs) up f =
    let low : m ≤ x.order = f (omega arith) in
    All-cons (λ (y : Number). m ≤ y.order) x xs low (All-weaker (λ (y : Number). x.order < y.order) (λ (y : Number). m ≤ y.order) (λ y lt. omega arith) xs up.0)

some_first : (xs : List Number) → 0 < length xs → IsSome (first_order xs)
some_first [] h = absurd (omega arith)
some_first (x ∷ xs) h = refl

-- the stream with the least number can run
least_runs : (p : PlansData) (h : List Event) → IsLegal p h → (f : Found (left_of p h) (length p.plans)) → is_runnable p h f.0 ≡ true
least_runs p h legal f = runs (left_of p h f.0) f.3 (least_can_run (length p.plans) (sync_of p h) f.0 (front p h f.0) least)
  where
    runs : (xs : List Number) → 0 < length xs → has_wait_of f.0 (front_of xs) (pending_in p h) ≡ false → (is_some (first_order xs) && not (is_blocked f.0 xs (pending_in p h))) ≡ true
    runs [] l e = absurd (omega arith)
    runs (x ∷ xs) l e = not_from_false (has_wait_of f.0 x.order (pending_in p h)) e

    least : IsLeast (sync_of p h) (front p h f.0)
    least t =
        All-map (λ k. front p h f.0 ≤ k) (λ (x : Number). x.order) (left_of p h t)
        (first_least (front p h f.0) (left_of p h t) (left_rises (sync_of p h) t) (λ l. let isknown = known_of_left p h t legal (some_first (left_of p h t) l) in f.4 t isknown.0 isknown.1 l))

-- where no stream can run, no number is left
pub none_left : (p : PlansData) (h : List Event) → IsLegal p h → ((t : ℕ) → 0 < t → t ≤ length p.plans → is_runnable p h t ≡ false) → (t : ℕ) → left_of p h t ≡ []
none_left p h legal none t = by (left_of p h t) refl (least_front (left_of p h) (length p.plans))
  where
    by : (xs : List Number) → left_of p h t ≡ xs → Empty (left_of p h) (length p.plans) ⊎ Found (left_of p h) (length p.plans) → xs ≡ []
    by [] e found = refl
    by (x ∷ xs) e (inl z) =
        let some : IsSome (first_order (left_of p h t)) = subst (λ (l : List Number). IsSome (first_order l)) (sym e) refl in
        let isknown = known_of_left p h t legal some in
        let nothing = z t isknown.0 isknown.1 in
        let many : length (left_of p h t) ≡ suc (length xs) = ap length e in
        absurd (omega (arith, nothing, many))
    by (x ∷ xs) e (inr f) = let a = least_runs p h legal f in let b = none f.0 f.1 f.2 in absurd (cc)

-- and where none is left, none can run
pub none_runs : (p : PlansData) (h : List Event) (t : ℕ) → left_of p h t ≡ [] → is_runnable p h t ≡ false
none_runs p h t e = ap (λ (l : List Number). is_some (first_order l) && not (is_blocked t l (pending_in p h))) e
