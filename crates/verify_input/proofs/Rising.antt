-- The dumps of a stream rise, so the flushes before each are those before the last and those between.
use Rattle.verify_input.proofs.Names.{◌≡◌, ℕ, ◌+◌, ◌-◌, ◌<◌, ◌≤◌, List, [], ◌∷◌, ◌++◌, length, take, drop, get_or, sym, ap, subst, ◌∙◌, arith, Contains, All, take-append-drop, drop_more, drop-drop, length-drop, All-get_or, Contains-get_or, slice_get_within, PlanData, IsDump, RiseFrom, flushes}
use Rattle.gpu_plan.specs.declared.plan.Action.{Action}
use Rattle.gpu_plan.specs.declared.plan.Action.TheVariants.{Finish}

flushes_both : (xs ys : List Action) → flushes (xs ++ ys) ≡ flushes xs + flushes ys
flushes_both [] ys = omega arith
flushes_both (x ∷ xs) ys = let more = flushes_both xs ys in omega (arith, more)

-- the flushes of actions are those of two parts of them
flushes_parts : (n : ℕ) (xs : List Action) → flushes xs ≡ flushes (take n xs) + flushes (drop n xs)
flushes_parts n xs = ap flushes (sym (take-append-drop n xs)) ∙ flushes_both (take n xs) (drop n xs)

rise_lower : (j k : ℕ) (dumps : List (ℕ × ℕ)) → j ≤ k → RiseFrom k dumps → RiseFrom j dumps
rise_lower j k [] low rise = tt
rise_lower j k (dump ∷ dumps) low rise = (omega (arith, low, rise.0), rise.1)

-- the dump at hand, by what is known of all and of the one before it
pub record Next (plan : PlanData) (done index : ℕ) (dump : ℕ × ℕ) : Type 0 where
  pub there : Contains plan.dumps dump
  pub later : done ≤ dump.0
  pub within : dump.0 ≤ length plan.actions
  pub room : dump.0 - done ≤ length (drop done plan.actions)
  pub rising : RiseFrom dump.0 (drop (index + 1) plan.dumps)
  pub left : drop (dump.0 - done) (drop done plan.actions) ≡ drop dump.0 plan.actions
  pub counted : flushes (take dump.0 plan.actions) ≡ flushes (take done plan.actions) + flushes (take (dump.0 - done) (drop done plan.actions))

pub next_dump : (plan : PlanData) (done index : ℕ) (dump : ℕ × ℕ) → index < length plan.dumps → dump ≡ get_or plan.dumps index dump → All (IsDump plan.areas.results plan.actions) plan.dumps
    → done ≤ length plan.actions → RiseFrom done (drop index plan.dumps) → Next plan done index dump
next_dump plan done index dump lt at lawful within rise =
    let more = drop (index + 1) plan.dumps in
    let first : drop index plan.dumps ≡ dump ∷ more = drop_more plan.dumps index dump lt ∙ ap (λ (d : ℕ × ℕ). d ∷ more) (sym at) in
    let up : (done ≤ dump.0) × RiseFrom (dump.0 + 1) more = subst (RiseFrom done) first rise in
    let own : IsDump plan.areas.results plan.actions dump = subst (IsDump plan.areas.results plan.actions) (sym at) (All-get_or (IsDump plan.areas.results plan.actions) plan.dumps index dump lt lawful) in
    let far = slice_get_within plan.actions dump.0 Finish own.0 in
    let later = up.0 in
    let sum : done + (dump.0 - done) ≡ dump.0 = omega (arith, later) in
    let left : drop (dump.0 - done) (drop done plan.actions) ≡ drop dump.0 plan.actions = drop-drop (dump.0 - done) done plan.actions ∙ ap (λ n. drop n plan.actions) sum in
    record {
      there = subst (Contains plan.dumps) (sym at) (Contains-get_or plan.dumps index dump lt);
      later = up.0;
      within = omega (arith, far);
      room = omega (arith, far, length-drop done plan.actions);
      rising = rise_lower dump.0 (dump.0 + 1) more (omega arith) up.1;
      left = left;
      counted = omega (arith, flushes_parts dump.0 plan.actions, flushes_parts done plan.actions, flushes_parts (dump.0 - done) (drop done plan.actions), ap flushes left);
    }
