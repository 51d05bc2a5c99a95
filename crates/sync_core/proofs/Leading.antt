-- The lines lead to each wait.
use Rattle.std.proofs.Common.{◌≡◌, ◌≢◌, ◌⊎◌, ℕ, ◌+◌, ◌<◌, ◌≤◌, length, eqb, Bool, true, false, ◌&&◌, List, [], ◌∷◌, Option, Some, None, Result, Ok, Err, set, refl, sym, ap, subst, ◌∙◌, arith, inl, inr, Contains}
use Rattle.std.specs.Prelude.{IfSome, OnSome, OnOk, OnErr}
use Rattle.std.specs.List.Sorted.{IsPermutation}
use Rattle.std.proofs.lemmas.Bool.{cases_eq, eq-eqb}
use Rattle.std.proofs.lemmas.List.{get_or-set_same, get_or-set_other}
use Rattle.std.proofs.lemmas.List.Sorted.{Contains-permutation, length_permutation}
use Rattle.std.proofs.lemmas.List.Sums.{sum_by-set}
use Rattle.slab.proofs.SlabLemmas.{Contains-cons, Contains-cons_cases}
use Rattle.slab.specs.Slab.{Slab, get, Updates}
use Rattle.sync_core.specs.declared.wait.Wait.{Wait}
use Rattle.sync_core.specs.declared.which.Which.{Which}
use Rattle.sync_core.specs.declared.which.Which.TheVariants.{Released, UpTo, On}
use Rattle.sync_core.specs.Lines.{line_at, is_within, Loses}
use Rattle.sync_core.specs.Queues.{takes, Leads, LeadToAll, LeadToOthers, entry_count}

second : (a b : Bool) → a ≡ true → (a && b) ≡ false → b ≡ false
second true b e k = k
second false b e k = absurd (cc)

-- an entry that is not the one that comes out stays in the lines
stays : (limit : Option ℕ) (old new : List (List (ℕ × ℕ))) (target slot : ℕ) → Loses limit (line_at old target) (line_at new target) slot → ((t : ℕ) → t ≢ target → line_at new t ≡ line_at old t)
    → (t : ℕ) (e : ℕ × ℕ) → Contains (line_at old t) e → (t ≡ target → e.1 ≡ slot → is_within e.0 limit ≡ false) → Contains (line_at new t) e
stays limit old new target slot loses others t e here off = by (cases_eq t target)
  where
    at_head : t ≡ target → (loses.key, slot) ≡ e → ⊥
    at_head same is = let k = off same (ap (λ (x : ℕ × ℕ). x.1) (sym is)) in let on = ap (λ (x : ℕ × ℕ). is_within x.0 limit) (sym is) ∙ loses.within in cc (sym on ∙ k)

    from : t ≡ target → ((loses.key, slot) ≡ e) ⊎ Contains (line_at new target) e → Contains (line_at new t) e
    from same (inl is) = absurd (at_head same is)
    from same (inr there) = subst (λ (u : ℕ). Contains (line_at new u) e) (sym same) there

    by : (t ≡ target) ⊎ (t ≢ target) → Contains (line_at new t) e
    by (inl same) =
        from same (Contains-cons_cases (loses.key, slot) e (line_at new target) (Contains-permutation (line_at old target) ((loses.key, slot) ∷ line_at new target) e loses.moved (subst (λ (u : ℕ). Contains (line_at old u) e) same here)))
    by (inr other) = subst (λ (l : List (ℕ × ℕ)). Contains l e) (sym (others t other)) here

module _ (old new : List (List (ℕ × ℕ))) (same : List (List (ℕ × ℕ))) (which : Which) (target : ℕ) (others : (t : ℕ) → t ≢ target → line_at new t ≡ line_at old t) where
  -- a slot comes out of the line by release
  pub leads_released : (release slot : ℕ) → which ≡ Released target release → Loses (Some release) (line_at old target) (line_at new target) slot → (slab : Slab Wait) → LeadToAll old same slab → LeadToOthers slot which new same slab
  leads_released release slot is loses slab leads i w at other = record {
    release = stays (Some release) old new target slot loses others w.target (w.release, i) (leads i w at).release
        (λ same_t same_i. second (eqb w.target target) _ (eq-eqb w.target target same_t) (ap (λ (x : Which). takes x w) (sym is) ∙ other same_i));
    order = (leads i w at).order;
  }

  -- or by order number
  pub leads_up_to : (order slot : ℕ) → which ≡ UpTo target order → Loses (Some order) (line_at old target) (line_at new target) slot → (slab : Slab Wait) → LeadToAll same old slab → LeadToOthers slot which same new slab
  leads_up_to order slot is loses slab leads i w at other = record {
    release = (leads i w at).release;
    order = stays (Some order) old new target slot loses others w.target (w.order, i) (leads i w at).order
        (λ same_t same_i. second (eqb w.target target) _ (eq-eqb w.target target same_t) (ap (λ (x : Which). takes x w) (sym is) ∙ other same_i));
  }

  pub leads_on : (slot : ℕ) → which ≡ On target → Loses None (line_at old target) (line_at new target) slot → (slab : Slab Wait) → LeadToAll same old slab → LeadToOthers slot which same new slab
  leads_on slot is loses slab leads i w at other = record {
    release = (leads i w at).release;
    order = stays None old new target slot loses others w.target (w.order, i) (leads i w at).order
        (λ same_t same_i. let off = ap (λ (x : Which). takes x w) (sym is) ∙ other same_i in let on = eq-eqb w.target target same_t in absurd (cc (sym on ∙ off)));
  }

-- and its line is shorter
pub shorter : (limit : Option ℕ) (lines : List (List (ℕ × ℕ))) (target : ℕ) (new : List (ℕ × ℕ)) (r : Option ℕ) → target < length lines → IfSome r (Loses limit (line_at lines target) new)
    → OnSome r (entry_count (set lines target new) < entry_count lines)
shorter limit lines target new None within l = l
shorter limit lines target new (Some slot) within l =
    let less = length_permutation (line_at lines target) ((l.key, slot) ∷ new) l.moved in
    let all = sum_by-set (λ (l : List (ℕ × ℕ)). length l) lines target new [] within in
    omega (arith, less, all)

-- a wait that is taken leaves its slot
pub leads_taken : (releases orders : List (List (ℕ × ℕ))) (a b : Slab Wait) (slot : ℕ) (which : Which) → LeadToOthers slot which releases orders a → Updates a b slot None → LeadToAll releases orders b
leads_taken releases orders a b slot which leads gone i w at =
    let other : i ≢ slot = λ same. let off : Some w ≡ None = sym at ∙ ap (get b) same ∙ gone.changed in absurd (cc) in
    leads i w (sym (gone.others i other) ∙ at) (λ same. absurd (other same))

-- an entry that leads to no wait that is taken is let go
pub leads_let_go : (releases orders : List (List (ℕ × ℕ))) (a : Slab Wait) (slot : ℕ) (which : Which) → LeadToOthers slot which releases orders a → ((w : Wait) → get a slot ≡ Some w → takes which w ≡ false) → LeadToAll releases orders a
leads_let_go releases orders a slot which leads off i w at = leads i w at (λ same. off w (ap (get a) (sym same) ∙ at))

-- what more the lines have does no harm
pub leads_more : (rs os rs' os' : List (List (ℕ × ℕ))) (a : Slab Wait) → ((t : ℕ) (e : ℕ × ℕ) → Contains (line_at rs t) e → Contains (line_at rs' t) e) → ((t : ℕ) (e : ℕ × ℕ) → Contains (line_at os t) e → Contains (line_at os' t) e)
    → LeadToAll rs os a → LeadToAll rs' os' a
leads_more rs os rs' os' a more_r more_o leads i w at = record { release = more_r w.target (w.release, i) (leads i w at).release; order = more_o w.target (w.order, i) (leads i w at).order }

-- a wait is put into a slot that both lines have
pub leads_put : (rs os : List (List (ℕ × ℕ))) (a b : Slab Wait) (slot : ℕ) (w : Wait) → LeadToAll rs os a → Updates a b slot (Some w) → Leads rs os slot w → LeadToAll rs os b
leads_put rs os a b slot w leads put own i v at = by (cases_eq i slot)
  where
    by : (i ≡ slot) ⊎ (i ≢ slot) → Leads rs os i v
    by (inl same) =
        let e : Some w ≡ Some v = sym put.changed ∙ ap (get b) (sym same) ∙ at in
        let is : w ≡ v = cc in
        subst (λ (u : Wait). Leads rs os i u) is (subst (λ (j : ℕ). Leads rs os j w) (sym same) own)
    by (inr other) = leads i v (sym (put.others i other) ∙ at)

-- what a push into one line does to all of them
pub grows : {T E : Type 0} (x e : ℕ × ℕ) (old new : List (ℕ × ℕ)) (r : Result T E) → OnOk r (IsPermutation (x ∷ old) new) → OnErr r (new ≡ old) → Contains old e → Contains new e
grows x e old new (Ok v) moved same here = Contains-permutation (x ∷ old) new e moved (Contains-cons x e old here)
grows x e old new (Err v) moved same here = subst (λ (l : List (ℕ × ℕ)). Contains l e) (sym same) here

pub olds_stay : (lines : List (List (ℕ × ℕ))) (target : ℕ) (old new : List (ℕ × ℕ)) → target < length lines → old ≡ line_at lines target → ((e : ℕ × ℕ) → Contains old e → Contains new e)
    → (t : ℕ) (e : ℕ × ℕ) → Contains (line_at lines t) e → Contains (line_at (set lines target new) t) e
olds_stay lines target old new within is more t e here = by (cases_eq t target)
  where
    by : (t ≡ target) ⊎ (t ≢ target) → Contains (line_at (set lines target new) t) e
    by (inl same) =
        subst (λ (l : List (ℕ × ℕ)). Contains l e) (sym (ap (line_at (set lines target new)) same ∙ get_or-set_same lines target new [] within))
        (more e (subst (λ (l : List (ℕ × ℕ)). Contains l e) (ap (line_at lines) same ∙ sym is) here))
    by (inr other) = subst (λ (l : List (ℕ × ℕ)). Contains l e) (sym (get_or-set_other lines target t new [] other)) here

pub new_there : {T E : Type 0} (lines : List (List (ℕ × ℕ))) (target : ℕ) (x : ℕ × ℕ) (old new : List (ℕ × ℕ)) (r : Result T E) → target < length lines → OnOk r (IsPermutation (x ∷ old) new) → OnOk r (Contains (line_at (set lines target new) target) x)
new_there lines target x old new (Ok v) within moved = subst (λ (l : List (ℕ × ℕ)). Contains l x) (sym (get_or-set_same lines target new [] within)) (Contains-permutation (x ∷ old) new x moved (0, omega arith, refl))
new_there lines target x old new (Err v) within moved = moved

pub longer : {T E : Type 0} (lines : List (List (ℕ × ℕ))) (target : ℕ) (x : ℕ × ℕ) (old new : List (ℕ × ℕ)) (r : Result T E) → target < length lines → old ≡ line_at lines target → OnOk r (IsPermutation (x ∷ old) new) → OnErr r (new ≡ old)
    → entry_count (set lines target new) ≤ entry_count lines + 1
longer lines target x old new (Ok v) within is moved same =
    let more = length_permutation (x ∷ old) new moved in
    let all = sum_by-set (λ (l : List (ℕ × ℕ)). length l) lines target new [] within in
    let was = ap length is in
    omega (arith, more, all, was)
longer lines target x old new (Err v) within is moved same =
    let all = sum_by-set (λ (l : List (ℕ × ℕ)). length l) lines target new [] within in
    let was = ap length (same ∙ is) in
    omega (arith, all, was)

-- and lines that lead to the waits below a slot, and to that in it, lead to those below the next one
pub leads_next : (rs os rs' os' : List (List (ℕ × ℕ))) (a : Slab Wait) (slot : ℕ) → ((i : ℕ) (w : Wait) → i < slot → get a i ≡ Some w → Leads rs os i w) → ((i : ℕ) (w : Wait) → Leads rs os i w → Leads rs' os' i w)
    → ((w : Wait) → get a slot ≡ Some w → Leads rs' os' slot w) → (i : ℕ) (w : Wait) → i < slot + 1 → get a i ≡ Some w → Leads rs' os' i w
leads_next rs os rs' os' a slot below olds own i w lt at = by (cases_eq i slot)
  where
    by : (i ≡ slot) ⊎ (i ≢ slot) → Leads rs' os' i w
    by (inl same) = subst (λ (j : ℕ). Leads rs' os' j w) (sym same) (own w (ap (get a) (sym same) ∙ at))
    by (inr other) = olds i w (below i w (omega (arith, lt, other)) at)
