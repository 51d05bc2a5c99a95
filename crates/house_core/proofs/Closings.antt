-- Whether a Close is among the actions of a plan, which has none before the last.
use Rattle.std.proofs.Common.{◌≡◌, ℕ, ◌+◌, ◌-◌, Bool, true, false, Some, List, [], ◌∷◌, length, take, get_or, refl, sym, ap, subst, ◌∙◌, arith, IsTrue}
use Rattle.std.specs.Prelude.{not, ◌&&◌, slice_get}
use Rattle.std.specs.List.{list_all}
use Rattle.std.proofs.lemmas.List.Folds.{list_all_more}
use Rattle.std.proofs.lemmas.Option.{slice_get-get_or}
use Rattle.gpu_plan.specs.declared.plan.Action.{Action}
use Rattle.gpu_plan.specs.declared.plan.Action.TheVariants as actions
use Rattle.gpu_plan.specs.Plans.{is_closed, stays_open}
use Rattle.gpu_journal.specs.Serial.{is_close}

one : (a : Action) → not (stays_open a) ≡ is_close (Some a)
one (actions.Put place value) = refl
one (actions.Flush put fences) = refl
one actions.Finish = refl
one (actions.Token token) = refl
one actions.Close = refl

whole : (xs : List Action) → take (length xs) xs ≡ xs
whole [] = refl
whole (x ∷ xs) = ap (λ (ys : List Action). x ∷ ys) (whole xs)

true_and : (a b : Bool) → IsTrue a → (a && b) ≡ b
true_and true b h = refl
true_and false b h = absurd (cc)

pub closed_at_last : (xs : List Action) → IsTrue (list_all stays_open (take (length xs - 1) xs)) → is_closed xs ≡ is_close (slice_get xs (length xs - 1))
closed_at_last [] h = refl
closed_at_last (x ∷ xs) h =
    let all = x ∷ xs in
    let n = length xs in
    let same : length all - 1 ≡ n = omega arith in
    let open' : IsTrue (list_all stays_open (take n all)) = subst (λ (k : ℕ). IsTrue (list_all stays_open (take k all))) same h in
    let more = list_all_more stays_open all n x (omega arith) in
    let next : n + 1 ≡ length all = omega arith in
    let last : list_all stays_open all ≡ stays_open (get_or all n x) =
    sym (ap (list_all stays_open) (ap (λ (k : ℕ). take k all) next ∙ whole all)) ∙ more ∙ true_and (list_all stays_open (take n all)) (stays_open (get_or all n x)) open' in
    ap not last ∙ one (get_or all n x) ∙ ap is_close (sym (slice_get-get_or all n x (omega arith)) ∙ ap (slice_get all) (sym same))
