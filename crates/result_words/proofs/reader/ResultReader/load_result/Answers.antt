use Rattle.std.proofs.Common.{◌≡◌, sym, ap, ◌∙◌, subst, arith}
use Rattle.result_words.specs.Views.{reader_of}
use Rattle.result_words.specs.Seen.{ReaderData, HasCounted}
use Rattle.result_words.proofs.Steps.{reads}
use Rattle.result_words.proofs.reader.ResultReader.load_result.Goals as goal

pub load-found-requires : goal.load-found-requires
load-found-requires g c =
    let seat = c.self.inside.seat in
    let shared = c.words.inside.table.shared in
    let same : seat.table_id ≡ shared.table_id = ap (λ (d : ReaderData). d.table) c.self.view_is ∙ sym c.requires.table ∙ sym c.words.view_is in
    let own = ap (λ t. t.words) same in
    let places = ap (λ (d : ReaderData). d.places) c.self.view_is in
    let wide = c.words.invariant in
    let within = c.requires.place in
    let has : HasCounted c.args.at_least (reader_of seat.me.0).counts = subst (λ (d : ReaderData). HasCounted c.args.at_least d.counts) (sym c.self.view_is) c.requires.counted in
    (same, omega arith, reads shared.key _ _ seat.me c.args.place _ c.self.invariant (subst (λ n. HasCounted n (reader_of seat.me.0).counts) c.requires.asked has))
