-- Puts that follow one another.
use Rattle.std.proofs.Common.{◌≡◌, ◌≢◌, ℕ, zero, suc, ◌+◌, ◌-◌, ◌≤◌, ◌<◌, ◌⊎◌, inl, inr, eqb, true, false, Option, None, Some, List, [], ◌∷◌, length, take, refl, sym, subst, ◌∙◌, arith}
use Rattle.std.proofs.lemmas.Bool.Decides.{eqb_tells}
use Rattle.std.proofs.lemmas.Option.{slice_get_within}
use Rattle.std.specs.Prelude.{slice_get}
use Rattle.std.specs.Option.{IsSomeAnd}
use Rattle.gpu_plan.specs.declared.plan.Action.{Action}
use Rattle.gpu_plan.specs.Plans.{PlanData}
use Rattle.gpu_plan.specs.Passes.{flushes, bound}
use Rattle.gpu_plan.proofs.Passing.{bound_one_further}
use Rattle.gpu_fetch.proofs.Beside.{put_passes}
use Rattle.gpu_fetch.specs.Side.{SideData}
use Rattle.gpu_fetch.specs.Plain.{PlainData, ArePuts, IsNext, IsPut, IsBeside}

-- none where nothing is between
pub no_puts : (actions : List Action) (from : ℕ) → ArePuts actions from from
no_puts actions from k low high = absurd (omega (arith, low, high))

-- and one more
pub puts_more : (actions : List Action) (from to next : ℕ) → ArePuts actions from to → IsNext IsPut actions to → next ≡ to + 1 → ArePuts actions from next
puts_more actions from to next puts one is k low high = by (eqb_tells k to)
  where
    by : ((eqb k to ≡ true) × (k ≡ to)) ⊎ ((eqb k to ≡ false) × (k ≢ to)) → IsNext IsPut actions k
    by (inl same) = subst (IsNext IsPut actions) (sym same.1) one
    by (inr off) = let apart = off.1 in puts k low (omega (arith, high, is, apart))

fewer_puts : (actions : List Action) (from n : ℕ) → ArePuts actions from (from + suc n) → ArePuts actions from (from + n)
fewer_puts actions from n puts k low high = puts k low (omega (arith, high))

pub bound_puts : (actions : List Action) (from n f : ℕ) (tokens : List ℕ) → from ≤ bound actions f tokens → ArePuts actions from (from + n) → from + n ≤ bound actions f tokens
bound_puts actions from zero f tokens low puts = omega (arith, low)
bound_puts actions from (suc n) f tokens low puts =
    let here = bound_puts actions from n f tokens low (fewer_puts actions from n puts) in
    let one = bound_one_further actions (from + n) f tokens here (put_passes (flushes (take (from + n) actions)) f tokens (slice_get actions (from + n)) (puts (from + n) (omega arith) (omega arith))) in
    omega (arith, one)

pub apart : (from to : ℕ) → from ≤ to → to ≡ from + (to - from)
apart from to le = omega (arith, le)

-- words stay beside their side while puts are done
pub puts_beside : (side : SideData) (old new : PlainData) → new.plan ≡ old.plan → old.done ≤ new.done → ArePuts old.plan.actions old.done new.done → IsBeside side old → IsBeside side new
puts_beside side old new plan le puts h =
    let far = apart old.done new.done le in
    let mine = subst (λ (q : PlanData). ArePuts q.actions old.done new.done) (sym h.plan) puts in
    let there = bound_puts side.plan.actions old.done (new.done - old.done) side.finished (side.greatest ∷ []) h.within (subst (ArePuts side.plan.actions old.done) far mine) in
    let met = h.met in
    record { plan = h.plan ∙ sym plan; met = omega (arith, met, le); within = omega (arith, there, far) }

-- ---- the loop of the code

-- there is a put
pub put_within : (actions : List Action) (k : ℕ) → IsNext IsPut actions k → k < length actions
put_within actions k is = by (slice_get actions k) refl is
  where
    by : (o : Option Action) → slice_get actions k ≡ o → IsSomeAnd o IsPut → k < length actions
    by None e at = absurd at
    by (Some a) e at = slice_get_within actions k a e
