use Rattle.std.proofs.Common.{◌≡◌, sym, ap, ◌∙◌, arith}
use Rattle.result_words.specs.Seen.{ResultWriterData}
use Rattle.result_words.proofs.Steps.{counts}
use Rattle.result_words.proofs.writer.ResultWriter.finish.Goals as goal

pub store-requires : goal.store-requires
store-requires c =
    let seat = c.self.inside.seat in
    let shared = c.words.inside.table.shared in
    let same : seat.table_id ≡ shared.table_id = ap (λ (d : ResultWriterData). d.table) c.self.view_is ∙ sym c.requires.table ∙ sym c.words.view_is in
    let wide = c.words.invariant in
    let count = c.self.invariant.finished_is in
    let next = c.saturating_add-next.ensures in
    (same, omega arith, counts shared.key _ _ seat.me _ c.self.invariant.is (omega arith))
