use Rattle.std.proofs.Common.{◌≡◌, ℕ, ◌+◌, ◌<◌, Some, sym, ap, ◌∙◌, subst, refl, arith}
use Rattle.std.specs.Prelude.{slice_get}
use Rattle.std.proofs.lemmas.Option.{slice_get_within, get_or_from_slice_get}
use Rattle.std.proofs.lemmas.List.Elements.{All-get_or}
use Rattle.atomic_table.specs.Seated.{TableId}
use Rattle.gpu_cmd.specs.Lawful.{places_of}
use Rattle.gpu_plan.specs.declared.plan.Action.TheVariants.{Put}
use Rattle.gpu_plan.specs.Plans.{PlanData, IsWithin}
use Rattle.shm_words.specs.Views.{client_of, one_done}
use Rattle.shm_words.specs.Seen.{ClientData, next_action}
use Rattle.shm_words.proofs.ClientSteps.{stores}
use Rattle.shm_words.proofs.Keeping.{next_there, moved}
use Rattle.shm_words.proofs.client.ClientPass.put.Goals as goal

pub store-requires : goal.store-requires
store-requires c =
    let kept = c.self.invariant in
    let seat = c.self.inside.seat in
    let plan = c.self.inside.plan in
    let done = c.self.inside.done in
    let action = Put c.args.place c.args.value in
    let same : seat.table_id ≡ c.words.inside.table.shared.table_id = ap (λ (d : ClientData). d.table) c.self.view_is ∙ sym c.requires.table ∙ sym c.words.view_is in
    let wide : c.words.inside.table.shared.table_id.words ≡ 3 + places_of plan.areas = ap (λ (t : TableId). t.words) (sym same) ∙ kept.wide in
    let next : slice_get plan.actions done ≡ Some action = subst (λ (d : ClientData). next_action d ≡ Some action) (sym c.self.view_is) c.requires.next in
    let low : IsWithin (places_of plan.areas) action = subst (IsWithin (places_of plan.areas)) (get_or_from_slice_get plan.actions done action action next) (All-get_or (IsWithin (places_of plan.areas)) plan.actions done action (slice_get_within plan.actions done action next) kept.lawful.within) in
    let place : c.args.place < places_of plan.areas = low.0 in
    let within = ap (λ (q : PlanData). places_of q.areas) kept.plan_is in
    let stored : Some action ≡ Some (Put c.args.place c.from.result) = ap (λ (v : ℕ). Some (Put c.args.place v)) (sym c.from.ensures) in
    (same, omega arith, stores _ _ _ seat.me c.args.place c.from.result kept.is (next_there _ _ _ _ seat.me kept action next ∙ stored) (omega arith))

pub invariant_of-self : goal.invariant_of-self
invariant_of-self c =
    let seat = c.self.inside.seat in
    let action = Put c.args.place c.args.value in
    let next : slice_get c.self.inside.plan.actions c.self.inside.done ≡ Some action = subst (λ (d : ClientData). next_action d ≡ Some action) (sym c.self.view_is) c.requires.next in
    moved _ _ _ _ seat.me c.self.invariant action _ _ _ (one_done (client_of seat.me.0)) next (omega arith) c.store.ensures.0 c.store.ensures.2 refl refl
