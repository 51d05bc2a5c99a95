-- What an event changes of the room that streams may still need.
use Rattle.std.proofs.Common.{◌≡◌, ◌≢◌, ℕ, zero, suc, ◌+◌, ◌<◌, ◌≤◌, ◌⊎◌, inl, inr, eqb, Bool, true, false, not, cond, List, [], ◌∷◌, ◌++◌, length, drop, refl, ap, ◌∙◌, arith, length-append, IsSome}
use Rattle.std.proofs.lemmas.Bool.{and_right, ne_eqb}
use Rattle.gpu_plan.specs.Plans.{PlansData}
use Rattle.stream_state.specs.declared.effect.Effect.{Effect}
use Rattle.stream_state.specs.declared.effect.Effect.TheVariants.{Nothing, Token, Release, Wait, WaitName, Pixels, Results}
use Rattle.sync_core.specs.declared.wait.Number.{Number}
use Rattle.sync_core.specs.Standing.{Standing, IsKnown, is_open, first_order, bumped}
use Rattle.sync_core.specs.Events as sync
use Rattle.gpu_journal.specs.declared.event.Event.{Event}
use Rattle.gpu_journal.specs.declared.event.Event.TheVariants.{Order, Step, Finish, Lost, Close}
use Rattle.gpu_journal.specs.declared.event.Why.{Why}
use Rattle.gpu_journal.specs.World.{world, stream_in, asked_by}
use Rattle.gpu_journal.specs.Waits.{deed_asked, standing_of, left_of, drawn}
use Rattle.gpu_journal.proofs.Worlds.{sync_none}
use Rattle.serial_laws.proofs.First.{nat_cases}
use Rattle.serial_laws.proofs.Others.{moved_by, standing_own, standing_other}
use Rattle.serial_laws.specs.Needs.{need_of, need, needs}

-- ---- of the event's own stream

-- an order needs one event more
pub need_order : (p : PlansData) (h : List Event) (s n c : ℕ) → need p (Order s n c ∷ h) s ≡ need p h s + 1
need_order p h s n c = ap need_of (standing_own p (Order s n c) h) ∙ pushed (standing_of p h s).left _ (cond (is_open (standing_of p h s)) 1 0)
  where
    pushed : (xs : List Number) (x : Number) (k : ℕ) → length (xs ++ x ∷ []) + k ≡ (length xs + k) + 1
    pushed xs x k = let more = length-append xs (x ∷ []) in omega arith

-- a step needs none
pub need_step : (p : PlansData) (h : List Event) (s : ℕ) (words : List (ℕ × ℕ)) → need p (Step s words ∷ h) s ≡ need p h s
need_step p h s words = ap need_of (standing_own p (Step s words) h) ∙ by (asked_by p s words (world p h))
  where
    bump : (xs : List Number) (k : ℕ) → length (bumped xs) + k ≡ length xs + k
    bump [] k = refl
    bump (x ∷ xs) k = refl

    by : (effect : Effect) → need_of (moved_by (deed_asked p effect) (drawn p h + 1) (standing_of p h s)) ≡ need p h s
    by Nothing = refl
    by (Token token) = refl
    by (Pixels op) = refl
    by (Results write) = refl
    by (Release r) = refl
    by (Wait t r) = bump (standing_of p h s).left (cond (is_open (standing_of p h s)) 1 0)
    by (WaitName name r) = bump (standing_of p h s).left (cond (is_open (standing_of p h s)) 1 0)

-- a finish is one of those that were needed
pub need_finish : (p : PlansData) (h : List Event) (s n : ℕ) → IsSome (first_order (left_of p h s)) → need p (Finish s n ∷ h) s + 1 ≡ need p h s
need_finish p h s n some = ap (λ (x : Standing). need_of x + 1) (standing_own p (Finish s n) h) ∙ by (standing_of p h s).left (cond (is_open (standing_of p h s)) 1 0) some
  where
    by : (xs : List Number) (k : ℕ) → IsSome (first_order xs) → (length (drop 1 xs) + k) + 1 ≡ length xs + k
    by [] k some = absurd (cc)
    by (x ∷ xs) k some = omega arith

-- a lost stream needs nothing
pub need_lost : (p : PlansData) (h : List Event) (s : ℕ) (why : Why) (words : List (ℕ × ℕ)) → need p (Lost s why words ∷ h) s ≡ 0
need_lost p h s why words = ap need_of (standing_own p (Lost s why words) h)

-- nor does a closed one
pub need_close : (p : PlansData) (h : List Event) (s : ℕ) → need p (Close s ∷ h) s ≡ 0
need_close p h s = ap need_of (standing_own p (Close s) h) ∙ ap (λ (b : Bool). 0 + cond b 1 0) (and_right (not (standing_of p h s).lost) false refl)

-- an open stream needs one event more than it has numbers
pub need_open : (p : PlansData) (h : List Event) (s : ℕ) → is_open (standing_of p h s) ≡ true → need p h s ≡ length (left_of p h s) + 1
need_open p h s o = ap (λ (b : Bool). length (left_of p h s) + cond b 1 0) o

-- ---- of the others, and of all

pub need_other : (p : PlansData) (e : Event) (h : List Event) (t : ℕ) → eqb (stream_in e) t ≡ false → need p (e ∷ h) t ≡ need p h t
need_other p e h t off = ap need_of (standing_other p e h t off)

-- streams before the event's own need what they needed
needs_before : (p : PlansData) (e : Event) (h : List Event) (n : ℕ) → n < stream_in e → needs p (e ∷ h) n ≡ needs p h n
needs_before p e h zero lt = refl
needs_before p e h (suc n) lt =
    let here = need_other p e h (suc n) (ne_eqb (stream_in e) (suc n) (λ q. absurd (omega (arith, q, lt)))) in
    let rest = needs_before p e h n (omega arith) in
    omega (arith, here, rest)

-- an event changes the need of its own stream alone
pub needs_event : (p : PlansData) (e : Event) (h : List Event) (n : ℕ) → IsKnown n (stream_in e) → needs p (e ∷ h) n + need p h (stream_in e) ≡ needs p h n + need p (e ∷ h) (stream_in e)
needs_event p e h zero is = absurd (let a = is.0 in let b = is.1 in omega arith)
needs_event p e h (suc n) is = by (λ k. needs_event p e h n k) (nat_cases (stream_in e) (suc n))
  where
    by : (IsKnown n (stream_in e) → needs p (e ∷ h) n + need p h (stream_in e) ≡ needs p h n + need p (e ∷ h) (stream_in e)) → (stream_in e ≡ suc n) ⊎ (stream_in e ≢ suc n)
        → needs p (e ∷ h) (suc n) + need p h (stream_in e) ≡ needs p h (suc n) + need p (e ∷ h) (stream_in e)
    by rest (inl same) =
        let before = needs_before p e h n (omega (arith, same)) in
        let old = ap (need p h) same in
        let new = ap (need p (e ∷ h)) same in
        omega (arith, before, old, new)
    by rest (inr differ) =
        let here = need_other p e h (suc n) (ne_eqb (stream_in e) (suc n) differ) in
        let more = rest (is.0, (let le = is.1 in omega (arith, le, differ))) in
        omega (arith, here, more)

-- the need of one stream is a part of the whole
pub need_within : (p : PlansData) (h : List Event) (n s : ℕ) → IsKnown n s → need p h s ≤ needs p h n
need_within p h zero s is = absurd (let a = is.0 in let b = is.1 in omega arith)
need_within p h (suc n) s is = by (λ k. need_within p h n s k) (nat_cases s (suc n))
  where
    by : (IsKnown n s → need p h s ≤ needs p h n) → (s ≡ suc n) ⊎ (s ≢ suc n) → need p h s ≤ needs p h (suc n)
    by rest (inl same) = let here = ap (need p h) same in omega (arith, here)
    by rest (inr differ) = let r = rest (is.0, (let le = is.1 in omega (arith, le, differ))) in omega (arith, r)

-- before any event each stream needs its end
pub needs_none : (p : PlansData) (n : ℕ) → needs p [] n ≡ n
needs_none p zero = refl
needs_none p (suc n) =
    let here : need p [] (suc n) ≡ 1 = ap (λ (g : List sync.SyncEvent). need_of (sync.standing g (suc n))) (sync_none p) in
    let rest = needs_none p n in
    omega (arith, here, rest)
