-- The dumps of a plan, as a client comes to them.
use Rattle.std.proofs.Common.{◌≡◌, ℕ, ◌+◌, ◌≤◌, ◌<◌, eqb, Bool, true, false, cond, Option, None, Some, List, [], ◌∷◌, ◌++◌, length, refl, sym, ap, subst, ◌∙◌, arith}
use Rattle.std.proofs.lemmas.Bool.{lt-ltb, le-ltb}
use Rattle.std.specs.Prelude.{nat_lt, slice_get, option_to_list, IfSome}
use Rattle.std.specs.List.{All}
use Rattle.std.proofs.lemmas.Bool.Decides.{nat_tests}
use Rattle.std.proofs.lemmas.Option.{get_or_from_slice_get, slice_get_within}
use Rattle.gpu_cmd.specs.declared.areas.Span.{Span}
use Rattle.gpu_plan.specs.declared.plan.Action.{Action}
use Rattle.gpu_plan.specs.declared.plan.Action.TheVariants.{Finish}
use Rattle.gpu_plan.specs.Plans.{IsDump, RiseFrom}
use Rattle.thread_parts.specs.Clients.{dumps_to, due_in}

-- none of them is before the first
pub none_before : (r k : ℕ) (dumps : List (ℕ × ℕ)) → RiseFrom r dumps → k ≤ r → dumps_to k dumps ≡ []
none_before r k [] rise le = refl
none_before r k (dump ∷ dumps) rise le =
    let first = rise.0 in
    ap (λ (b : Bool). cond b (dump ∷ dumps_to k dumps) (dumps_to k dumps)) (le-ltb dump.0 k (omega (arith, first, le))) ∙ none_before (dump.0 + 1) k dumps rise.1 (omega (arith, first, le))

-- with one action more there is the next dump, where it is of that action
pub next_dumps : (r k : ℕ) (dumps : List (ℕ × ℕ)) → RiseFrom r dumps → dumps_to (k + 1) dumps ≡ dumps_to k dumps ++ option_to_list (due_in (slice_get dumps (length (dumps_to k dumps))) k)
next_dumps r k [] rise = refl
next_dumps r k (dump ∷ dumps) rise = by (nat_lt dump.0 k) refl (next_dumps (dump.0 + 1) k dumps rise.1)
  where
    at : dump.0 ≡ k → cond (nat_lt dump.0 (k + 1)) (dump ∷ dumps_to (k + 1) dumps) (dumps_to (k + 1) dumps) ≡ dump ∷ []
    at same =
        ap (λ (b : Bool). cond b (dump ∷ dumps_to (k + 1) dumps) (dumps_to (k + 1) dumps)) (lt-ltb dump.0 (k + 1) (omega (arith, same)))
        ∙ ap (λ (l : List (ℕ × ℕ)). dump ∷ l) (none_before (dump.0 + 1) (k + 1) dumps rise.1 (omega (arith, same)))

    past : k < dump.0 → cond (nat_lt dump.0 (k + 1)) (dump ∷ dumps_to (k + 1) dumps) (dumps_to (k + 1) dumps) ≡ []
    past more =
        ap (λ (b : Bool). cond b (dump ∷ dumps_to (k + 1) dumps) (dumps_to (k + 1) dumps)) (le-ltb dump.0 (k + 1) (omega (arith, more)))
        ∙ none_before (dump.0 + 1) (k + 1) dumps rise.1 (omega (arith, more))

    here : k ≤ dump.0 → (b : Bool) → eqb dump.0 k ≡ b → cond (nat_lt dump.0 (k + 1)) (dump ∷ dumps_to (k + 1) dumps) (dumps_to (k + 1) dumps) ≡ option_to_list (cond b (Some dump) None)
    here le true q = at (grind (arith, nat_tests))
    here le false q = past (grind (arith, nat_tests))

    by : (b : Bool) → nat_lt dump.0 k ≡ b → dumps_to (k + 1) dumps ≡ dumps_to k dumps ++ option_to_list (due_in (slice_get dumps (length (dumps_to k dumps))) k)
        → cond (nat_lt dump.0 (k + 1)) (dump ∷ dumps_to (k + 1) dumps) (dumps_to (k + 1) dumps)
        ≡ cond b (dump ∷ dumps_to k dumps) (dumps_to k dumps) ++ option_to_list (due_in (slice_get (dump ∷ dumps) (length (cond b (dump ∷ dumps_to k dumps) (dumps_to k dumps)))) k)
    by true q rest =
        let lt : dump.0 < k = grind (arith, nat_tests) in
        ap (λ (b : Bool). cond b (dump ∷ dumps_to (k + 1) dumps) (dumps_to (k + 1) dumps)) (lt-ltb dump.0 (k + 1) (omega (arith, lt))) ∙ ap (λ (l : List (ℕ × ℕ)). dump ∷ l) rest
    by false q rest =
        let le : k ≤ dump.0 = grind (arith, nat_tests) in
        let none = none_before (dump.0 + 1) k dumps rise.1 (omega (arith, le)) in
        here le (eqb dump.0 k) refl ∙ sym (ap (λ (l : List (ℕ × ℕ)). l ++ option_to_list (due_in (slice_get (dump ∷ dumps) (length l)) k)) none)

-- a dump that stands in the list
module _ (results : List (Option Span)) (actions : List Action) (planned : List (ℕ × ℕ)) (lawful : All (IsDump results actions) planned) where
  found : (n : ℕ) (dump : ℕ × ℕ) → slice_get planned n ≡ Some dump → IsDump results actions dump
  found n dump e = subst (IsDump results actions) (get_or_from_slice_get planned n dump dump e) (lawful n dump (slice_get_within planned n dump e))

  -- what is due of an action is of it, and is a dump
  pub due_is : (n k : ℕ) → IfSome (due_in (slice_get planned n) k) (λ dump. (dump.0 ≡ k) × IsDump results actions dump)
  due_is n k = by (slice_get planned n) refl
    where
      at : (dump : ℕ × ℕ) → slice_get planned n ≡ Some dump → (b : Bool) → eqb dump.0 k ≡ b → IfSome (cond b (Some dump) None) (λ (dump : ℕ × ℕ). (dump.0 ≡ k) × IsDump results actions dump)
      at dump e true q = ((let same : dump.0 ≡ k = grind (arith, nat_tests) in same), found n dump e)
      at dump e false q = tt

      by : (o : Option (ℕ × ℕ)) → slice_get planned n ≡ o → IfSome (due_in o k) (λ dump. (dump.0 ≡ k) × IsDump results actions dump)
      by None e = tt
      by (Some dump) e = at dump e (eqb dump.0 k) refl

  -- none is due of an action that is no Finish
  pub none_due : (n k : ℕ) → (slice_get actions k ≡ Some Finish → ⊥) → due_in (slice_get planned n) k ≡ None
  none_due n k other = by (due_in (slice_get planned n) k) (due_is n k)
    where
      by : (o : Option (ℕ × ℕ)) → IfSome o (λ (dump : ℕ × ℕ). (dump.0 ≡ k) × IsDump results actions dump) → o ≡ None
      by None is = refl
      by (Some dump) is = absurd (other (ap (slice_get actions) (sym is.0) ∙ is.1.0))
