-- The values of plain words, one action further.
use Rattle.std.proofs.Common.{◌≡◌, ℕ, ◌+◌, ◌<◌, List, length, get_or, Some, sym, ap, ◌∙◌, arith}
use Rattle.std.specs.Prelude.{slice_index, slice_get}
use Rattle.std.proofs.lemmas.Option.{slice_get-get_or}
use Rattle.gpu_plan.specs.declared.plan.Action.{Action}
use Rattle.gpu_plan.specs.Plans.{PlanData}
use Rattle.gpu_plan.specs.Values.{after}
use Rattle.gpu_plan.proofs.Holding.{value_one_further}
use Rattle.gpu_fetch.specs.Plain.{HoldItsValues}

pub stored_again : (plan given : PlanData) (done : ℕ) (old new : List ℕ) (actions : List Action) (action : Action) → plan ≡ given → actions ≡ given.actions → done < length given.actions → action ≡ get_or actions done action → length new ≡ length old → ((i : ℕ) → slice_index new i ≡ after i (slice_index old i) action) → HoldItsValues plan done old → HoldItsValues plan (done + 1) new
stored_again plan given done old new actions action same these lt here kept step h =
    let mine : actions ≡ plan.actions = these ∙ ap (λ (q : PlanData). q.actions) (sym same) in
    let few : length actions ≡ length given.actions = ap length these in
    let many : length actions ≡ length plan.actions = ap length mine in
    let inside : done < length actions = omega arith in
    let at : slice_get plan.actions done ≡ Some action = ap (λ xs. slice_get xs done) (sym mine) ∙ slice_get-get_or actions done action inside ∙ ap Some (sym here) in
    record {
      count = kept ∙ h.count;
      within = omega arith;
      each = λ i. step i ∙ ap (λ v. after i v action) (h.each i) ∙ sym (value_one_further plan.actions done i action at);
    }
