-- What the line says of a history that is listed from its oldest event on.
use Rattle.std.proofs.Common.{◌≡◌, Bool, cond, List, [], ◌∷◌, reverse, refl, ap, ◌∙◌, arith}
use Rattle.std.specs.List.{count_by}
use Rattle.std.proofs.lemmas.List.{reverse-append}
use Rattle.std.proofs.lemmas.List.Sums.{sum_by-cons, sum_by_push}

-- as many items pass a test in either order
pub count_by-reverse : {A : Type 0} (passes : A → Bool) (items : List A) → count_by passes (reverse items) ≡ count_by passes items
count_by-reverse passes [] = refl
count_by-reverse passes (item ∷ items) =
    ap (count_by passes) (reverse-append (item ∷ []) items) ∙ omega (arith, sum_by_push (λ x. cond (passes x) 1 0) (reverse items) item, sum_by-cons (λ x. cond (passes x) 1 0) item items, count_by-reverse passes items)
