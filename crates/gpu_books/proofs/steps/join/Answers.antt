use Rattle.std.proofs.Common.{◌≡◌, Some, sym, ap, ◌∙◌, subst, arith}
use Rattle.gpu_books.specs.Views.{BookSeat, half_numbers}
use Rattle.gpu_books.specs.Seen.{half_of, IsHalf}
use Rattle.gpu_books.proofs.Keeping.{joins}
use Rattle.gpu_books.proofs.steps.join.Goals as goal

pub join_seat-requires : goal.join_seat-requires
join_seat-requires c =
    let one = c.unwrap-full.result in
    let two = c.unwrap.result in
    let there : c.args.kept ≡ Some one = cc in
    let there' : c.args.out ≡ Some two = cc in
    let mine = subst IsHalf there c.requires.halves.0 in
    let theirs = subst IsHalf there' c.requires.halves.1 in
    let one_word = c.book.invariant.0 in (
      ap (λ o. (half_of o).book) (sym there) ∙ c.requires.kept ∙ sym c.book.view_is,
      ap (λ o. (half_of o).book) (sym there') ∙ c.requires.out ∙ sym c.book.view_is,
      ap (λ (m : BookSeat). m.1) theirs,
      omega arith,
      joins one.id one.me two.id two.me (half_numbers one.me.0) (half_numbers two.me.0) (ap (λ (m : BookSeat). m.0) mine) (ap (λ (m : BookSeat). m.0) theirs),
    )
