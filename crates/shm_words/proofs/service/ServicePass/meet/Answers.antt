use Rattle.std.proofs.Common.{◌≡◌, sym, ap, ◌∙◌, arith, rules}
use Rattle.atomic_table.specs.Seated.{TableId}
use Rattle.shm_words.specs.Views.{WordSeat}
use Rattle.shm_words.specs.Seen.{ServiceData, NoteData}
use Rattle.shm_words.proofs.SeatSteps.{joins}
use Rattle.shm_words.proofs.ServiceSteps.{sees}
use Rattle.shm_words.proofs.service.ServicePass.meet.Goals as goal

pub join_seat-requires : goal.join_seat-requires
join_seat-requires c =
    let kept = c.self.invariant in
    let same : c.self.inside.seat.table_id ≡ c.words.inside.table.shared.table_id = ap (λ (d : ServiceData). d.table) c.self.view_is ∙ sym c.requires.table ∙ sym c.words.view_is in
    let same' : c.note.inside.seat.table_id ≡ c.words.inside.table.shared.table_id = ap (λ (d : NoteData). d.table) c.note.view_is ∙ c.requires.note ∙ sym c.requires.table ∙ sym c.words.view_is in
    let wide = ap (λ (t : TableId). t.words) (sym same) ∙ kept.wide in
    (same, same', ap (λ (m : WordSeat). m.1) c.note.invariant, omega arith, joins _ _ c.self.inside.seat.me _ c.note.inside.seat.me kept.is c.note.invariant)

pub load-requires : goal.load-requires
load-requires c = (search rules, search rules, sees _ _ _ c.join_seat.new.seat.me (search rules))
