-- What a place holds.
use Rattle.std.proofs.Common.{◌≡◌, ℕ, zero, suc, ◌+◌, ◌≤◌, ◌<◌, ◌^◌, ◌⊎◌, inl, inr, lit<, Bool, true, false, cond, List, [], ◌∷◌, take, eqb, Some, ap, ◌∙◌, subst, arith}
use Rattle.std.proofs.Math.Nat.{eq-or-lt_of_le}
use Rattle.std.specs.Prelude.{slice_get}
use Rattle.std.specs.List.{All}
use Rattle.std.proofs.lemmas.List.Elements.{All-head, All-tail}
use Rattle.gpu_plan.specs.declared.plan.Action.{Action}
use Rattle.gpu_plan.specs.declared.plan.Action.TheVariants.{Put, Flush, Finish, Token, Close}
use Rattle.gpu_plan.specs.Plans.{IsWithin}
use Rattle.gpu_plan.specs.Values.{after, last_put, value_at}
use Rattle.gpu_plan.specs.MayHold.{MayHold}

last_put_after : (i v : ℕ) (xs : List Action) (k : ℕ) (a : Action) → slice_get xs k ≡ Some a → last_put i v (take (suc k) xs) ≡ after i (last_put i v (take k xs)) a
last_put_after i v [] k a e = absurd (cc)
last_put_after i v (x ∷ xs) zero a e = let is : x ≡ a = cc in ap (after i v) is
last_put_after i v (x ∷ xs) (suc k) a e = last_put_after i (after i v x) xs k a e

pub value_one_further : (actions : List Action) (k place : ℕ) (action : Action) → slice_get actions k ≡ Some action → value_at actions (k + 1) place ≡ after place (value_at actions k place) action
value_one_further xs k i a e = let one : k + 1 ≡ suc k = omega arith in ap (λ n. last_put i 0 (take n xs)) one ∙ last_put_after i 0 xs k a e

pub may_hold_between : (actions : List Action) (least least' most most' place value : ℕ) → least' ≤ least → most ≤ most' → MayHold actions least most place value → MayHold actions least' most' place value
may_hold_between actions c c' b b' i v h h' m = record { done = m.done; since = (let l = m.since in omega arith); until = (let u = m.until in omega arith); held = m.held }

-- either the value is of a later moment, or it is that of the flush itself
pub may_hold_behind_flush : (actions : List Action) (c put most place value : ℕ) (fences : List (ℕ × ℕ)) → slice_get actions c ≡ Some (Flush put fences) → c < most → MayHold actions c most place value → MayHold actions (c + 1) most place value
may_hold_behind_flush actions c put most place value fences at lt m =
    let since = m.since in
    let until = m.until in
    let later : (c ≡ m.done) ⊎ (c < m.done) = eq-or-lt_of_le since in
    elim later [
      | inl here ↦ record { done = c + 1; since = omega arith; until = omega arith; held = value_one_further actions c place (Flush put fences) at ∙ ap (λ k. value_at actions k place) here ∙ m.held }
      | inr more ↦ record { done = m.done; since = omega arith; until = until; held = m.held }
    ]

cond_fits : (b : Bool) (m n : ℕ) → m < 2 ^ 32 → n < 2 ^ 32 → cond b m n < 2 ^ 32
cond_fits true m n h k = h
cond_fits false m n h k = k

after_fits : (places i v : ℕ) (a : Action) → IsWithin places a → v < 2 ^ 32 → after i v a < 2 ^ 32
after_fits places i v (Put place value) h k = cond_fits (eqb place i) value v h.1 k
after_fits places i v (Flush put fences) h k = k
after_fits places i v Finish h k = k
after_fits places i v (Token token) h k = k
after_fits places i v Close h k = k

last_put_fits : (places i v : ℕ) (xs : List Action) (k : ℕ) → All (IsWithin places) xs → v < 2 ^ 32 → last_put i v (take k xs) < 2 ^ 32
last_put_fits places i v [] zero all h = h
last_put_fits places i v [] (suc k) all h = h
last_put_fits places i v (x ∷ xs) zero all h = h
last_put_fits places i v (x ∷ xs) (suc k) all h = last_put_fits places i (after i v x) xs k (All-tail (IsWithin places) x xs all) (after_fits places i v x (All-head (IsWithin places) x xs all) h)

pub may_hold_fits : (actions : List Action) (places least most place value : ℕ) → All (IsWithin places) actions → MayHold actions least most place value → value < 2 ^ 32
may_hold_fits actions places c b i v all m = subst (λ n. n < 2 ^ 32) m.held (last_put_fits places i 0 actions m.done all (lit< tt))
