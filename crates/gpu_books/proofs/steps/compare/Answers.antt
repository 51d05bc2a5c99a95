use Rattle.std.proofs.Common.{sym, ◌∙◌, arith}
use Rattle.gpu_books.proofs.Keeping.{loads}
use Rattle.gpu_books.proofs.steps.compare.Goals as goal

pub load-requires : goal.load-requires
load-requires c = let six = c.book.invariant.0 in (c.requires.book ∙ sym c.book.view_is, omega arith, loads _ _ c.args.full.now.me)
