use Rattle.std.proofs.Common.{List, subst, sym}
use Rattle.atomic_table.specs.Seated.{TableId}
use Rattle.gpu_house.specs.Names.{table_at}
use Rattle.service_tests.proofs.Beginning.{first_next, first_marked}
use Rattle.service_tests.proofs.Belonging.{fresh_home}
use Rattle.service_tests.proofs.tests.making.drive.Goals as goal

pub order-requires-clause-home : goal.order-requires-clause-home
order-requires-clause-home g c =
    let S = g.P.ServiceSide in
    let e = c.in_ok-house.ensures in
    fresh_home S.belongs S.note_belongs S.results_belong c.args.words.now c.in_ok-house.house c.args.side c.args.results c.requires.belongs c.requires.results e.slots e.results

pub order-requires-clause-next : goal.order-requires-clause-next
order-requires-clause-next g c = first_next g.N.Naming.plans c.args.plans c.in_ok-house.house.core.past c.requires.plans c.in_ok-house.ensures.past c.requires.flush

pub order-requires-clause-mark : goal.order-requires-clause-mark
order-requires-clause-mark g c = first_marked g.N.Naming.plans c.args.plans c.in_ok-house.house.core.past (g.P.ServiceSide.mark c.args.note) c.requires.plans c.in_ok-house.ensures.past c.requires.first

pub order-requires-clause-table : goal.order-requires-clause-table
order-requires-clause-table g c = subst (λ (words : List TableId). g.P.ServiceSide.note_of c.args.note (table_at words 1)) (sym c.requires.table) c.requires.named
