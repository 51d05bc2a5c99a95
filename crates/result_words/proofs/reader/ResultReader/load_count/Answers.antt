use Rattle.std.proofs.Common.{◌≡◌, sym, ap, ◌∙◌, arith}
use Rattle.result_words.specs.Seen.{ReaderData}
use Rattle.result_words.proofs.Steps.{sees}
use Rattle.result_words.proofs.reader.ResultReader.load_count.Goals as goal

pub load-requires : goal.load-requires
load-requires c =
    let seat = c.self.inside.seat in
    let shared = c.words.inside.table.shared in
    let same : seat.table_id ≡ shared.table_id = ap (λ (d : ReaderData). d.table) c.self.view_is ∙ sym c.requires.table ∙ sym c.words.view_is in
    let wide = c.words.invariant in
    (same, omega arith, sees shared.key _ _ seat.me c.self.invariant)
