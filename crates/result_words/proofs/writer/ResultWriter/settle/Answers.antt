use Rattle.std.proofs.Common.{◌≡◌, sym, ap, ◌∙◌, arith}
use Rattle.result_words.specs.Views.{ResultSeat, writer_of, reader_of, with_taken}
use Rattle.result_words.specs.Seen.{ResultWriterData, ReaderData}
use Rattle.result_words.proofs.Seats.{still_writer}
use Rattle.result_words.proofs.Steps.{joins, looks}
use Rattle.result_words.proofs.writer.ResultWriter.settle.Goals as goal

pub join_seat-requires : goal.join_seat-requires
join_seat-requires c =
    let seat = c.self.inside.seat in
    let other = c.reader.inside.seat in
    let shared = c.words.inside.table.shared in
    let same : seat.table_id ≡ shared.table_id = ap (λ (d : ResultWriterData). d.table) c.self.view_is ∙ sym c.requires.table ∙ sym c.words.view_is in
    let theirs : other.table_id ≡ shared.table_id = ap (λ (d : ReaderData). d.table) c.reader.view_is ∙ c.requires.reader ∙ sym c.requires.table ∙ sym c.words.view_is in
    let wide = c.words.invariant in
    (same, theirs, ap (λ (m : ResultSeat). m.1) c.reader.invariant, omega arith, joins shared.key _ seat.me _ other.me c.self.invariant.is c.reader.invariant)

pub load-requires : goal.load-requires
load-requires c =
    let seat = c.self.inside.seat in
    let after = c.join_seat.new.seat in
    let shared = c.words.inside.table.shared in
    let same : seat.table_id ≡ shared.table_id = ap (λ (d : ResultWriterData). d.table) c.self.view_is ∙ sym c.requires.table ∙ sym c.words.view_is in
    let wide = c.words.invariant in
    let still = still_writer seat.me after.me (with_taken (reader_of c.reader.inside.seat.me.0).reads (writer_of seat.me.0)) c.self.invariant.is c.join_seat.ensures.2 in
    (c.join_seat.ensures.0 ∙ same, omega arith, looks shared.key _ _ after.me still)
