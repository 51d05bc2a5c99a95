-- Plain words and a side: what keeps them together.
use Rattle.std.proofs.Common.{◌≡◌, ℕ, ◌≤◌, true, List, [], ◌∷◌, Option, None, Some, refl, ap, ◌∙◌, arith}
use Rattle.std.specs.Prelude.{slice_get}
use Rattle.std.specs.Option.{IsSomeAnd}
use Rattle.gpu_plan.specs.declared.plan.Action.{Action}
use Rattle.gpu_plan.specs.declared.plan.Action.TheVariants.{Put, Flush, Finish, Token, Close}
use Rattle.gpu_plan.specs.Plans.{PlanData}
use Rattle.gpu_plan.specs.Passes.{passes_if_there, passes, bound}
use Rattle.gpu_plan.proofs.Passing.{bound_one_further, bound_grows_by_greatest, passes_on_by_greatest}
use Rattle.gpu_fetch.specs.Side.{SideData}
use Rattle.gpu_fetch.specs.Plain.{PlainData, one_further, IsNext, IsPut, IsFlush, IsBeside, IsNoteBeside}

-- a side whose finishes and greatest token grew
pub grown : (s t : SideData) (w : PlainData) → t.plan ≡ s.plan → t.met ≡ s.met → s.finished ≤ t.finished → s.greatest ≤ t.greatest → IsBeside s w → IsBeside t w
grown s t w plan met more more' h =
    let grows = bound_grows_by_greatest s.plan.actions s.finished t.finished s.greatest t.greatest more more' in
    let same : bound t.plan.actions t.finished (t.greatest ∷ []) ≡ bound s.plan.actions t.finished (t.greatest ∷ []) = ap (λ (q : PlanData). bound q.actions t.finished (t.greatest ∷ [])) plan in
    let far = h.within in
    let near = h.met in
    record { plan = plan ∙ h.plan; met = omega arith; within = omega arith }

-- words of which one more action, which passes, is done
pub stepped : (s : SideData) (w : PlainData) → passes w.plan.actions w.done s.finished (s.greatest ∷ []) ≡ true → IsBeside s w → IsBeside s (one_further w)
stepped s w p h =
    let here : passes s.plan.actions w.done s.finished (s.greatest ∷ []) ≡ true = ap (λ (q : PlanData). passes q.actions w.done s.finished (s.greatest ∷ [])) h.plan ∙ p in
    let met = h.met in
    record { plan = h.plan; met = omega arith; within = bound_one_further s.plan.actions w.done s.finished (s.greatest ∷ []) h.within here }

-- a put passes, whatever is finished
pub put_passes : (f g : ℕ) (ts : List ℕ) (a : Option Action) → IsSomeAnd a IsPut → passes_if_there f g ts a ≡ true
put_passes f g ts None h = absurd h
put_passes f g ts (Some (Put place value)) h = refl
put_passes f g ts (Some (Flush put fences)) h = absurd h
put_passes f g ts (Some Finish) h = absurd h
put_passes f g ts (Some (Token token)) h = absurd h
put_passes f g ts (Some Close) h = absurd h

flush_passes : (f g : ℕ) (ts : List ℕ) (a : Option Action) → IsSomeAnd a IsFlush → passes_if_there f g ts a ≡ true
flush_passes f g ts None h = absurd h
flush_passes f g ts (Some (Put place value)) h = absurd h
flush_passes f g ts (Some (Flush put fences)) h = refl
flush_passes f g ts (Some Finish) h = absurd h
flush_passes f g ts (Some (Token token)) h = absurd h
flush_passes f g ts (Some Close) h = absurd h

pub after_put : (s : SideData) (w : PlainData) → IsNext IsPut w.plan.actions w.done → IsBeside s w → IsBeside s (one_further w)
after_put s w next h = stepped s w (put_passes _ s.finished (s.greatest ∷ []) (slice_get w.plan.actions w.done) next) h

pub after_flush : (s : SideData) (w : PlainData) → IsNext IsFlush w.plan.actions w.done → IsBeside s w → IsBeside s (one_further w)
after_flush s w next h = stepped s w (flush_passes _ s.finished (s.greatest ∷ []) (slice_get w.plan.actions w.done) next) h

pub after_await : (s : SideData) (w : PlainData) (finished token : ℕ) → passes w.plan.actions w.done finished (token ∷ []) ≡ true → finished ≤ s.finished → token ≤ s.greatest → IsBeside s w → IsBeside s (one_further w)
after_await s w finished token p f t h = stepped s w (passes_on_by_greatest w.plan.actions w.done finished s.finished token s.greatest f t p) h

-- a note stays done
pub with_note : (s : SideData) (w : PlainData) (mark : ℕ) → IsBeside s (one_further w) → mark ≤ w.done → IsNoteBeside s (one_further w) mark
with_note s w mark h m = (h, omega arith)
