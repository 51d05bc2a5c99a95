-- Puts that are left.
use Rattle.std.proofs.Common.{◌≡◌, ℕ, zero, suc, ◌+◌, ◌<◌, List, [], ◌∷◌, drop, ap, ◌∙◌, arith, add-one}
use Rattle.gpu_plan.specs.declared.plan.Action.{Action}
use Rattle.gpu_plan.specs.declared.plan.Action.TheVariants.{Put, Flush, Finish, Token, Close}
use Rattle.gpu_fetch.specs.Plain.{IsNext, IsPut}
use Rattle.service_tests.specs.Stirred.{puts_ahead}

-- where a put is ahead, the next action is one
pub next_is_put : (xs : List Action) (k : ℕ) → 0 < puts_ahead (drop k xs) → IsNext IsPut xs k
next_is_put [] zero h = absurd (omega arith)
next_is_put [] (suc k) h = absurd (omega arith)
next_is_put (Put place value ∷ xs) zero h = tt
next_is_put (Flush put fences ∷ xs) zero h = absurd (omega arith)
next_is_put (Finish ∷ xs) zero h = absurd (omega arith)
next_is_put (Token token ∷ xs) zero h = absurd (omega arith)
next_is_put (Close ∷ xs) zero h = absurd (omega arith)
next_is_put (x ∷ xs) (suc k) h = next_is_put xs k h

one_less : (xs : List Action) (k : ℕ) → 0 < puts_ahead (drop k xs) → puts_ahead (drop (suc k) xs) + 1 ≡ puts_ahead (drop k xs)
one_less [] zero h = absurd (omega arith)
one_less [] (suc k) h = absurd (omega arith)
one_less (Put place value ∷ xs) zero h = omega arith
one_less (Flush put fences ∷ xs) zero h = absurd (omega arith)
one_less (Finish ∷ xs) zero h = absurd (omega arith)
one_less (Token token ∷ xs) zero h = absurd (omega arith)
one_less (Close ∷ xs) zero h = absurd (omega arith)
one_less (x ∷ xs) (suc k) h = one_less xs k h

-- after a put that is ahead, one less is left
pub puts_left : (xs : List Action) (k : ℕ) → 0 < puts_ahead (drop k xs) → puts_ahead (drop (k + 1) xs) + 1 ≡ puts_ahead (drop k xs)
puts_left xs k h = ap (λ n. puts_ahead (drop n xs) + 1) (add-one k) ∙ one_less xs k h
