use Rattle.std.proofs.Common.{ℕ, ◌+◌, replicate, length, sym, ap, ◌∙◌, arith}
use Rattle.std.proofs.lemmas.List.{length-replicate}
use Rattle.result_words.proofs.Steps.{splits, begins}
use Rattle.result_words.proofs.maker.make.Goals as goal

pub of_words-requires : goal.of_words-requires
of_words-requires c = begins c.from.result _ (c.as_slice.ensures.value ∙ c.in_ok-zeros.ensures.items_if_clones_equal (λ y h. h) ∙ ap (λ (n : ℕ). replicate (1 + n) 0) (sym c.from.ensures))

pub split_seat-reader-requires : goal.split_seat-reader-requires
split_seat-reader-requires c =
    let e = c.in_ok-table.ensures in
    let wide = e.0 ∙ ap length c.as_slice.ensures.value ∙ ap length (c.in_ok-zeros.ensures.items_if_clones_equal (λ y h. h)) ∙ length-replicate (1 + c.args.places) 0 in
    (e.2, omega arith, splits _ _ c.in_ok-table.seat.me)
