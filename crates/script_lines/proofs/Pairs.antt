-- Pairs read one after the other.
use Rattle.std.proofs.Common.{◌≡◌, ℕ, List, [], ◌∷◌, ◌++◌, Result, Ok, Err, refl, sym, ap, ◌∙◌, append_assoc}
use Rattle.std.proofs.lemmas.List.{append-nil}
use Rattle.script_lines.specs.Numbers.{decimal_of, long_decimal_of}
use Rattle.script_lines.specs.declared.fault.Kind.{Kind}
use Rattle.script_lines.specs.declared.fault.Kind.TheVariants.{Number, Word}
use Rattle.script_lines.specs.declared.fault.LineError.{LineError}
use Rattle.script_lines.specs.declared.fault.LineError.TheVariants as errors
use Rattle.script_lines.specs.Outcome.{◌>>=◌, or_error, Fails}
use Rattle.script_lines.specs.Said.{pairs_of}

-- what was read before, and what is still read
abbrev pub with_front : List (ℕ × ℕ) → Result (List (ℕ × ℕ)) Kind → Result (List (ℕ × ℕ)) Kind
with_front front read = read >>= λ pairs. Ok (front ++ pairs)

pub regroup : (front : List (ℕ × ℕ)) (p : ℕ × ℕ) (read : Result (List (ℕ × ℕ)) Kind) → with_front front (read >>= λ ps. Ok (p ∷ ps)) ≡ with_front (front ++ p ∷ []) read
regroup front p (Ok ps) = ap (λ (xs : List (ℕ × ℕ)). Ok xs) (simp append_assoc)
regroup front p (Err k) = refl

pub goes_on : (front : List (ℕ × ℕ)) (all mid rest : List (List ℕ)) (t r : List ℕ) (target release : ℕ) (total : Result (List (ℕ × ℕ)) Kind) → all ≡ t ∷ mid → mid ≡ r ∷ rest → or_error Number (decimal_of t) ≡ Ok target → or_error Number (long_decimal_of r) ≡ Ok release
    → with_front front (pairs_of all) ≡ total → with_front (front ++ (target, release) ∷ []) (pairs_of rest) ≡ total
unfolding pairs_of
goes_on front all mid rest t r target release total e f h k so_far =
    let one : with_front front (pairs_of all) ≡ with_front (front ++ (target, release) ∷ []) (pairs_of rest) = rw (e, f, h, k) (regroup front (target, release) (pairs_of rest)) in
    sym one ∙ so_far

pub ends_first : (e : LineError) (front : List (ℕ × ℕ)) (all mid rest : List (List ℕ)) (t r : List ℕ) (total : Result (List (ℕ × ℕ)) Kind) → all ≡ t ∷ mid → mid ≡ r ∷ rest → Fails e (or_error Number (decimal_of t))
    → with_front front (pairs_of all) ≡ total → Fails e total
unfolding pairs_of
ends_first (errors.Memory refusal) front all mid rest t r total e f h so_far = tt
ends_first (errors.Refused k) front all mid rest t r total e f h so_far =
    let one : with_front front (pairs_of all) ≡ Err k = rw (e, f, h) refl in
    sym so_far ∙ one

pub ends_second : (e : LineError) (front : List (ℕ × ℕ)) (all mid rest : List (List ℕ)) (t r : List ℕ) (target : ℕ) (total : Result (List (ℕ × ℕ)) Kind) → all ≡ t ∷ mid → mid ≡ r ∷ rest → or_error Number (decimal_of t) ≡ Ok target → Fails e (or_error Number (long_decimal_of r))
    → with_front front (pairs_of all) ≡ total → Fails e total
unfolding pairs_of
ends_second (errors.Memory refusal) front all mid rest t r target total e f g h so_far = tt
ends_second (errors.Refused k) front all mid rest t r target total e f g h so_far =
    let one : with_front front (pairs_of all) ≡ Err k = rw (e, f, g, h) refl in
    sym so_far ∙ one

pub odd : (front : List (ℕ × ℕ)) (all mid : List (List ℕ)) (t : List ℕ) (total : Result (List (ℕ × ℕ)) Kind) → all ≡ t ∷ mid → mid ≡ [] → with_front front (pairs_of all) ≡ total → total ≡ Err Word
unfolding pairs_of
odd front all mid t total e f so_far =
    let one : with_front front (pairs_of all) ≡ Err Word = rw (e, f) refl in
    sym so_far ∙ one

pub is_done : (front : List (ℕ × ℕ)) (all : List (List ℕ)) (total : Result (List (ℕ × ℕ)) Kind) → all ≡ [] → with_front front (pairs_of all) ≡ total → total ≡ Ok front
unfolding pairs_of
is_done front all total e so_far =
    let one : with_front front (pairs_of all) ≡ Ok front = rw e (ap (λ (xs : List (ℕ × ℕ)). Ok xs) (append-nil front)) in
    sym so_far ∙ one
