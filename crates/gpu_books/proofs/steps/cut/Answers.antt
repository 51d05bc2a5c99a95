use Rattle.std.proofs.Common.{sym, ◌∙◌, arith}
use Rattle.gpu_books.proofs.Keeping.{splits}
use Rattle.gpu_books.proofs.steps.cut.Goals as goal

pub split_seat-other-requires : goal.split_seat-other-requires
split_seat-other-requires c = let six = c.book.invariant.0 in (c.requires.book ∙ sym c.book.view_is, omega arith, splits _ c.args.full.me c.requires.full.0)
