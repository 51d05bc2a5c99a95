-- Where the flush stands that a client makes next.
use Rattle.std.proofs.Common.{◌≡◌, ℕ, suc, ◌+◌, ◌<◌, Option, Some, List, [], ◌∷◌, length, take, refl, sym, ap, subst, ◌∙◌, arith, option_map, unwrap_or}
use Rattle.std.specs.Prelude.{slice_get}
use Rattle.std.specs.Option.{IsSomeAnd}
use Rattle.gpu_plan.specs.declared.plan.Action.{Action}
use Rattle.gpu_plan.specs.declared.plan.Action.TheVariants.{Put, Flush, Finish, Token, Close}
use Rattle.gpu_plan.specs.Plans.{PlansData, PlanData, plan_of}
use Rattle.gpu_plan.specs.Passes.{flushes}
use Rattle.gpu_plan.specs.Places.{flush_places, mark_of}
use Rattle.gpu_plan.proofs.Passing.{flushes_all}
use Rattle.gpu_fetch.specs.Plain.{IsNext, IsFlush}
use Rattle.service_tests.specs.Stirred.{ComesToFlush, puts_ahead}
use Rattle.gpu_fetch.proofs.Counting.{flush_counts}
use Rattle.serial_laws.proofs.Flushes.{flush_placed}

-- ---- a flush that is next

pub next_flush : (xs : List Action) (k : ℕ) (a : Action) (put : ℕ) (fences : List (ℕ × ℕ)) → slice_get xs k ≡ Some a → a ≡ Flush put fences → IsNext IsFlush xs k
next_flush xs k a put fences got is = subst (λ (o : Option Action). IsSomeAnd o IsFlush) (sym got) (subst IsFlush (sym is) tt)

-- there is a flush after those before it
pub flush_left : (plan : PlanData) (done n : ℕ) → n ≡ flushes (take done plan.actions) → IsNext IsFlush plan.actions done → n < flushes plan.actions
flush_left plan done n e next =
    let more = flush_counts plan.actions done next in
    let all = flushes_all plan.actions (done + 1) in
    omega (arith, more, all, e)

-- and its mark is that of its note
pub flush_mark : (plan : PlanData) (done n : ℕ) → n ≡ flushes (take done plan.actions) → IsNext IsFlush plan.actions done → done + 1 ≡ mark_of plan n
flush_mark plan done n e next =
    let place : slice_get (flush_places plan.actions) n ≡ Some done = ap (slice_get (flush_places plan.actions)) e ∙ flush_placed plan.actions done (flush_counts plan.actions done next) in
    let one : done + 1 ≡ suc done = omega arith in
    one ∙ sym (ap (λ (at : Option ℕ). unwrap_or (option_map suc at) (length plan.actions)) place)

-- ---- puts stand before the first one

no_flush : (xs : List Action) → flushes (take (puts_ahead xs) xs) ≡ 0
no_flush [] = refl
no_flush (Put place value ∷ xs) = let r = no_flush xs in omega (arith, r)
no_flush (Flush put fences ∷ xs) = refl
no_flush (Finish ∷ xs) = refl
no_flush (Token token ∷ xs) = refl
no_flush (Close ∷ xs) = refl

-- the plan has a flush
pub has_flush : (p : PlansData) (plan : PlanData) → plan ≡ plan_of p 1 → ComesToFlush plan.actions → 0 < flushes (plan_of p 1).actions
has_flush p plan is h = subst (λ (q : PlanData). 0 < flushes q.actions) is (flush_left plan (puts_ahead plan.actions) 0 (sym (no_flush plan.actions)) h)

-- and the mark of the first one is the number of puts before it and one more
pub first_mark : (p : PlansData) (plan : PlanData) (mark : ℕ) → plan ≡ plan_of p 1 → ComesToFlush plan.actions → mark ≡ puts_ahead plan.actions + 1 → mark ≡ mark_of (plan_of p 1) 0
first_mark p plan mark is h e = e ∙ flush_mark plan (puts_ahead plan.actions) 0 (sym (no_flush plan.actions)) h ∙ ap (λ (q : PlanData). mark_of q 0) is
