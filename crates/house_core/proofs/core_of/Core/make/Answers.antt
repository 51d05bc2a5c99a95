use Rattle.std.proofs.Common.{ap, sym, subst, ◌∙◌}
use Rattle.std.proofs.lemmas.List.{length-map}
use Rattle.house_core.specs.Core.{Booked, names_of, books_of, outs_of}
use Rattle.house_core.specs.Invariant.{CoreInvariant}
use Rattle.house_core.proofs.First.{core_first, books_first, outs_first}
use Rattle.house_core.proofs.core_of.Core.make.Goals as goal

pub invariant_of-result : goal.invariant_of-result
invariant_of-result c =
    let p = c.args.plans in
    let books = length-map c.args.books.items (λ (book : Booked). book.0) ∙ c.requires.books in
    let past = sym c.in_ok-journal.ensures.events in
    let owed = sym c.count-count.ensures.count in
    let seats = sym c.in_ok-scheduler.ensures in
    let images = sym c.make-images.ensures in
    let desks = sym c.in_ok-desks.ensures in
    let spare = c.in_ok-journal.journal.spare in
    let room = c.in_ok-journal.ensures.spare in
    subst CoreInvariant (λ j. record { plans = p; past = past j; spare = spare; owed = owed j; sync = c.in_ok-sync.sync; seats = seats j; images = images j; desks = desks j })
    (core_first p (names_of c.args.books.items) c.in_ok-sync.sync spare c.plans_are_lawful.ensures books (c.in_ok-sync.ensures.count ∙ c.count-count.ensures.count) c.in_ok-sync.ensures.stands room c.shows_room.ensures)

pub returns-clause-books : goal.returns-clause-books
returns-clause-books c = ap books_of c.in_ok-desks.ensures ∙ books_first c.args.plans.plans (names_of c.args.books.items) (length-map c.args.books.items (λ (book : Booked). book.0) ∙ c.requires.books)

pub returns-clause-outs : goal.returns-clause-outs
returns-clause-outs c = ap outs_of c.in_ok-desks.ensures ∙ outs_first c.args.plans.plans (names_of c.args.books.items) (length-map c.args.books.items (λ (book : Booked). book.0) ∙ c.requires.books)
