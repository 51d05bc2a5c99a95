-- The record of a stream fits its plan after each event.
use Rattle.std.proofs.Common.{◌≡◌, ℕ, ◌+◌, ◌≤◌, inl, inr, Some, List, [], ◌∷◌, length, sym, ap, ◌∙◌, arith}
use Rattle.std.specs.Prelude.{slice_get}
use Rattle.std.proofs.lemmas.Bool.{cases_lt}
use Rattle.gpu_plan.specs.declared.plan.Action.{Action}
use Rattle.gpu_plan.specs.Plans.{PlanData}
use Rattle.gpu_plan.specs.Passes.{bound}
use Rattle.gpu_plan.specs.Places.{flush_places}
use Rattle.gpu_plan.proofs.Passing.{bound_grows_by_greatest}
use Rattle.serial_laws.proofs.Flushes.{flush_there, flush_of_place, below_place, flushes_before}
use Rattle.journal_verify.specs.Kept.{WatchData, IsWatch}

pub tell_further : (plan : PlanData) (watch : WatchData) (token : ℕ) → watch.token ≤ token → IsWatch plan watch → watch.client.reached.upto ≤ bound plan.actions watch.finished (token ∷ [])
tell_further plan watch token high is =
    let most = is.most in
    let grows = bound_grows_by_greatest plan.actions watch.finished watch.finished watch.token token (omega arith) high in
    omega arith

pub finish_further : (plan : PlanData) (watch : WatchData) → IsWatch plan watch → watch.client.reached.upto ≤ bound plan.actions (watch.finished + 1) (watch.token ∷ [])
finish_further plan watch is =
    let most = is.most in
    let grows = bound_grows_by_greatest plan.actions watch.finished (watch.finished + 1) watch.token watch.token (omega arith) (omega arith) in
    omega arith

-- a flush stands among the actions
pub flush_within : (actions : List Action) (j place : ℕ) → slice_get (flush_places actions) j ≡ Some place → place ≤ length actions
flush_within actions j place at = let end = (flushes_before actions j place at).1 in omega arith

-- the next flush stands after it
pub flush_rises : (actions : List Action) (j c d : ℕ) → slice_get (flush_places actions) j ≡ Some c → slice_get (flush_places actions) (j + 1) ≡ Some d → c ≤ d
flush_rises actions j c d first next =
    elim (cases_lt d c) [
      | inl less ↦ (let few = (flushes_before actions j c first).0 in let more = below_place actions (j + 1) d c next less in absurd (omega arith))
      | inr low ↦ low
    ]

-- what the client has done at least ends before the next flush
pub done_before : (plan : PlanData) (watch : WatchData) (next : ℕ) → IsWatch plan watch → slice_get watch.flushes (watch.finished + 1) ≡ Some next → watch.client.held.done ≤ next
done_before plan watch next is at =
    let further : slice_get (flush_places plan.actions) (watch.finished + 1) ≡ Some next = ap (λ (places : List ℕ). slice_get places (watch.finished + 1)) (sym is.flushes) ∙ at in
    let more = flush_of_place plan.actions (watch.finished + 1) next further in
    let here = flush_there plan.actions watch.finished (omega arith) in
    let done = is.least here.0 (ap (λ (places : List ℕ). slice_get places watch.finished) is.flushes ∙ here.1) in
    let rises = flush_rises plan.actions watch.finished here.0 next here.1 further in
    omega arith

pub some_same : (a b : ℕ) → Some a ≡ Some b → a ≡ b
some_same a b e = cc
