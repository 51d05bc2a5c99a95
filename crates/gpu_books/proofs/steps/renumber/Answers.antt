use Rattle.std.proofs.Common.{sym, ◌∙◌, arith}
use Rattle.gpu_books.proofs.Keeping.{renumbered}
use Rattle.gpu_books.proofs.steps.renumber.Goals as goal

pub load-requires : goal.load-requires
load-requires g c = let one = c.book.invariant.0 in (c.requires.book ∙ sym c.book.view_is, omega arith, renumbered _ _ c.args.full.now.me g.N.Numbers.numbers c.requires.full.0)
