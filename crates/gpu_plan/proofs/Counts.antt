-- How many actions and flushes there are, also once puts are added.
use Rattle.std.proofs.Common.{◌≡◌, ℕ, ◌+◌, List, [], ◌∷◌, ◌++◌, cond, length, map, refl, ap, ◌∙◌, arith, length-append}
use Rattle.std.specs.Prelude.{if◌then◌else◌}
use Rattle.std.specs.List.{count_by}
use Rattle.std.proofs.lemmas.List.Sums.{sum_by-append, sum_by-cons}
use Rattle.std.proofs.lemmas.List.{length-map}
use Rattle.gpu_plan.specs.declared.plan.Action.{Action}
use Rattle.script_lines.specs.Numbers.{value_of}
use Rattle.gpu_plan.specs.Plans.{is_flush}
use Rattle.gpu_plan.specs.Passes.{flush_count, flushes}
use Rattle.gpu_plan.specs.Places.{flush_places_from}
use Rattle.gpu_plan.specs.Adding.{puts}
use Rattle.gpu_plan.proofs.Lawful.{length-puts}
use Rattle.gpu_plan.proofs.Passing.{by_flush}

as_many : (place : ℕ) (words : List (List ℕ)) → length (puts place (map value_of words)) ≡ length words
as_many place words = length-puts place (map value_of words) ∙ length-map words value_of

pub more_actions : (old : List Action) (place : ℕ) (words : List (List ℕ)) → length (old ++ puts place (map value_of words)) ≡ length old + length words
more_actions old place words = length-append old (puts place (map value_of words)) ∙ ap (λ n. length old + n) (as_many place words)

pub none_flushes : (place : ℕ) (values : List ℕ) → count_by is_flush (puts place values) ≡ 0
none_flushes place [] = refl
none_flushes place (value ∷ values) = none_flushes (place + 1) values

pub no_more_flushes : (old : List Action) (place : ℕ) (words : List (List ℕ)) → count_by is_flush (old ++ puts place (map value_of words)) ≡ count_by is_flush old
no_more_flushes old place words =
    let none = none_flushes place (map value_of words) in
    let both : count_by is_flush (old ++ puts place (map value_of words)) ≡ count_by is_flush old + count_by is_flush (puts place (map value_of words)) = sum_by-append (λ action. if is_flush action then 1 else 0) old (puts place (map value_of words)) in
    omega arith

-- ---- flushes, however they are counted

pub flushes_counted : (xs : List Action) → flushes xs ≡ count_by is_flush xs
flushes_counted [] = refl
flushes_counted (x ∷ xs) =
    let rest = flushes_counted xs in
    let more = sum_by-cons (λ (a : Action). cond (is_flush a) 1 0) x xs in
    let one : flush_count x ≡ cond (is_flush x) 1 0 = by_flush (λ b n. n ≡ cond b 1 0) x refl refl in
    omega (arith, rest, more, one)

-- there are as many places as flushes
pub places_count : (i : ℕ) (xs : List Action) → length (flush_places_from i xs) ≡ flushes xs
places_count i [] = refl
places_count i (x ∷ xs) =
    let rest = places_count (i + 1) xs in
    by_flush (λ b n. length (cond b (i ∷ flush_places_from (i + 1) xs) (flush_places_from (i + 1) xs)) ≡ n + flushes xs) x (omega (arith, rest)) (omega (arith, rest))
