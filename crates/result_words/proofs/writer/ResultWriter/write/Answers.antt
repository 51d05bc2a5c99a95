use Rattle.std.proofs.Common.{◌≡◌, sym, ap, ◌∙◌, arith}
use Rattle.result_words.specs.Seen.{ResultWriterData}
use Rattle.result_words.proofs.Steps.{stores}
use Rattle.result_words.proofs.writer.ResultWriter.write.Goals as goal

pub store-requires : goal.store-requires
store-requires c =
    let seat = c.self.inside.seat in
    let shared = c.words.inside.table.shared in
    let same : seat.table_id ≡ shared.table_id = ap (λ (d : ResultWriterData). d.table) c.self.view_is ∙ sym c.requires.table ∙ sym c.words.view_is in
    let own = ap (λ t. t.words) same in
    let places = ap (λ (d : ResultWriterData). d.places) c.self.view_is in
    let wide = c.words.invariant in
    let within = c.requires.place in
    (same, omega arith, stores shared.key _ _ seat.me c.args.place _ c.self.invariant.is (omega arith) (omega arith))
