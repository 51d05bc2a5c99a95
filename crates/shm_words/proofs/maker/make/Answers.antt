use Rattle.std.proofs.Common.{◌≡◌, ◌+◌, sym, ap, ◌∙◌, subst, arith, length}
use Rattle.std.proofs.lemmas.List.{length-replicate}
use Rattle.atomic_table.specs.Table.{Splits}
use Rattle.shm_words.specs.declared.view.View.{View}
use Rattle.shm_words.specs.declared.view.View.TheVariants.{Whole}
use Rattle.shm_words.specs.Views.{WordSeat, client_part, service_part}
use Rattle.shm_words.specs.Rule.{KeepsWords}
use Rattle.shm_words.proofs.SeatSteps.{parts}
use Rattle.shm_words.proofs.maker.make.Goals as goal

pub split_seat-service-requires : goal.split_seat-service-requires
split_seat-service-requires c =
    let e = c.in_ok-table.ensures in
    let seat = c.in_ok-table.seat in
    let key = c.in_ok-table.table.shared.key in
    let mine : seat.me.0 ≡ Whole c.args.plan.now = ap (λ (m : WordSeat). m.0) e.4 in (
      e.2,
      (let wide : c.in_ok-table.table.shared.table_id.words ≡ 3 + c.places.result = e.0 ∙ ap length c.as_slice.ensures.value ∙ ap length (c.in_ok-zeros.ensures.items_if_clones_equal (λ y h. h)) ∙ length-replicate (3 + c.places.result) 0 in omega arith),
      subst (λ (v : View). Splits (KeepsWords key) seat.id v (client_part v) (service_part v)) (sym mine) (parts key c.args.plan.now seat.id),
    )
