use Rattle.std.proofs.Common.{◌≡◌, ◌+◌, sym, ap, ◌∙◌, arith}
use Rattle.atomic_table.specs.Seated.{TableId}
use Rattle.gpu_cmd.specs.Lawful.{places_of}
use Rattle.shm_words.specs.Seen.{ClientData}
use Rattle.shm_words.proofs.SeatSteps.{blanks}
use Rattle.shm_words.proofs.client.ClientPass.blank.Goals as goal

pub split_seat-requires : goal.split_seat-requires
split_seat-requires c =
    let kept = c.self.invariant in
    let seat = c.self.inside.seat in
    let same : seat.table_id ≡ c.words.inside.table.shared.table_id = ap (λ (d : ClientData). d.table) c.self.view_is ∙ sym c.requires.table ∙ sym c.words.view_is in
    let wide : c.words.inside.table.shared.table_id.words ≡ 3 + places_of c.self.inside.plan.areas = ap (λ (t : TableId). t.words) (sym same) ∙ kept.wide in
    (same, omega arith, blanks _ _ seat.me kept.is)
