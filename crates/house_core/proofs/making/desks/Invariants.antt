use Rattle.std.proofs.Common.{◌≡◌, ◌+◌, ◌++◌, length, drop}
use Rattle.std.specs.List.{All}
use Rattle.house_core.specs.Core.{names_of, IsFresh}
use Rattle.house_core.specs.Making.{desks_of}
use Rattle.house_core.proofs.making.desks.Given as goal

abbrev pub invariant-loop-book : goal.invariant-loop-book
invariant-loop-book l = record {
  count : length l.desks.items + length l.book-iterator.rest.items ≡ length l.plans.plans;
  fresh : All IsFresh l.book-iterator.rest.items;
  done : l.desks.items ++ desks_of (drop (length l.desks.items) l.plans.plans) (names_of l.book-iterator.rest.items) ≡ desks_of l.plans.plans (names_of l.fn.books.items);
}
