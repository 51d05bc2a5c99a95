-- Dumps stay at their Finish while actions are added.
use Rattle.std.proofs.Common.{◌≡◌, ℕ, zero, suc, ◌<◌, ◌≤◌, ◌+◌, List, [], ◌∷◌, ◌++◌, length, Some, None, refl, arith}
use Rattle.std.specs.Prelude.{slice_get, Option}
use Rattle.std.specs.List.{All}
use Rattle.std.proofs.lemmas.List.Elements.{All-head, All-tail, All-weaker, All-push}
use Rattle.gpu_cmd.specs.declared.areas.Span.{Span}
use Rattle.gpu_cmd.specs.Spans.{words_in}
use Rattle.gpu_plan.specs.declared.plan.Action.{Action}
use Rattle.gpu_plan.specs.declared.plan.Action.TheVariants.{Finish}
use Rattle.gpu_plan.specs.Plans.{IsDump, RiseFrom}

found_before : {X : Type 0} (xs ys : List X) (i : ℕ) (x : X) → slice_get xs i ≡ Some x → slice_get (xs ++ ys) i ≡ Some x
found_before [] ys i x found = absurd cc
found_before (y ∷ xs) ys zero x found = found
found_before (y ∷ xs) ys (suc i) x found = found_before xs ys i x found

pub found_behind : {X : Type 0} (xs : List X) (x : X) → slice_get (xs ++ x ∷ []) (length xs) ≡ Some x
found_behind [] x = refl
found_behind (y ∷ xs) x = found_behind xs x

pub dumps_stay : (results : List (Option Span)) (old more new : List Action) (dumps : List (ℕ × ℕ)) → All (IsDump results old) dumps → new ≡ old ++ more → All (IsDump results new) dumps
dumps_stay results old more new dumps h added =
    rw added (All-weaker (IsDump results old) (IsDump results (old ++ more)) (λ dump is. (found_before old more dump.0 Finish is.0, is.1)) dumps h)

pub dumps_grow : (results : List (Option Span)) (old new : List Action) (dumps more : List (ℕ × ℕ)) (at place : ℕ) → All (IsDump results old) dumps → place < words_in results → at ≡ length old → new ≡ old ++ Finish ∷ [] → more ≡ dumps ++ (at, place) ∷ [] → All (IsDump results new) more
dumps_grow results old new dumps more at place h there is added noted =
    rw (noted, is) (All-push (IsDump results new) dumps (length old, place) (dumps_stay results old (Finish ∷ []) new dumps h added) (rw added (found_behind old Finish), there))

found_within : {X : Type 0} (xs : List X) (i : ℕ) (x : X) → slice_get xs i ≡ Some x → i < length xs
found_within [] i x found = absurd cc
found_within (y ∷ xs) zero x found = omega arith
found_within (y ∷ xs) (suc i) x found = let within = found_within xs i x found in omega arith

rising_behind : (results : List (Option Span)) (old : List Action) (k : ℕ) (dumps : List (ℕ × ℕ)) (place : ℕ) → k ≤ length old → All (IsDump results old) dumps → RiseFrom k dumps → RiseFrom k (dumps ++ (length old, place) ∷ [])
rising_behind results old k [] place within h rising = (within, tt)
rising_behind results old k (dump ∷ dumps) place within h rising =
    let here = found_within old dump.0 Finish (All-head (IsDump results old) dump dumps h).0 in
    (rising.0, rising_behind results old (dump.0 + 1) dumps place (omega arith) (All-tail (IsDump results old) dump dumps h) rising.1)

pub rising_grow : (results : List (Option Span)) (old : List Action) (dumps more : List (ℕ × ℕ)) (at place : ℕ) → All (IsDump results old) dumps → RiseFrom 0 dumps → at ≡ length old → more ≡ dumps ++ (at, place) ∷ [] → RiseFrom 0 more
rising_grow results old dumps more at place h rising is noted = rw (noted, is) (rising_behind results old 0 dumps place (omega arith) h rising)

-- where nothing was done, there is no dump
pub no_dump : (results other : List (Option Span)) (actions : List Action) (dumps : List (ℕ × ℕ)) → actions ≡ [] → All (IsDump results actions) dumps → All (IsDump other actions) dumps
no_dump results other actions dumps none h =
    All-weaker (IsDump results actions) (IsDump other actions) (λ dump is. let nothing : slice_get actions dump.0 ≡ None = rw none refl in absurd cc) dumps h
