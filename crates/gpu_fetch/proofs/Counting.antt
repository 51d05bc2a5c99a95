-- How many flushes stand before an action and before the one after it.
use Rattle.std.proofs.Common.{◌≡◌, ℕ, ◌+◌, Option, Some, None, List, take, refl, arith}
use Rattle.std.specs.Prelude.{slice_get}
use Rattle.std.specs.Option.{IsSomeAnd}
use Rattle.gpu_plan.specs.declared.plan.Action.{Action}
use Rattle.gpu_plan.specs.declared.plan.Action.TheVariants.{Put, Flush, Finish, Token, Close}
use Rattle.gpu_plan.specs.Passes.{flush_count, flushes}
use Rattle.gpu_plan.proofs.Passing.{flushes_one_further}
use Rattle.gpu_fetch.specs.Plain.{IsNext, IsPut, IsFlush}

one_flush : (a : Action) → IsFlush a → flush_count a ≡ 1
one_flush (Put place value) is = absurd is
one_flush (Flush put fences) is = refl
one_flush Finish is = absurd is
one_flush (Token token) is = absurd is
one_flush Close is = absurd is

-- a flush is one more
pub flush_counts : (xs : List Action) (k : ℕ) → IsNext IsFlush xs k → flushes (take (k + 1) xs) ≡ flushes (take k xs) + 1
flush_counts xs k next = by (slice_get xs k) refl next
  where
    by : (o : Option Action) → slice_get xs k ≡ o → IsSomeAnd o IsFlush → flushes (take (k + 1) xs) ≡ flushes (take k xs) + 1
    by None e is = absurd is
    by (Some a) e is = let step = flushes_one_further xs k a e in let counted = one_flush a is in omega (arith, step, counted)

no_flush : (a : Action) → IsPut a → flush_count a ≡ 0
no_flush (Put place value) is = refl
no_flush (Flush put fences) is = absurd is
no_flush Finish is = absurd is
no_flush (Token token) is = absurd is
no_flush Close is = absurd is

-- a put is none
pub put_counts : (xs : List Action) (k : ℕ) → IsNext IsPut xs k → flushes (take (k + 1) xs) ≡ flushes (take k xs)
put_counts xs k next = by (slice_get xs k) refl next
  where
    by : (o : Option Action) → slice_get xs k ≡ o → IsSomeAnd o IsPut → flushes (take (k + 1) xs) ≡ flushes (take k xs)
    by None e is = absurd is
    by (Some a) e is = let step = flushes_one_further xs k a e in let none = no_flush a is in omega (arith, step, none)
