use Rattle.service_tests.proofs.Beginning.{fresh_sides}
use Rattle.service_tests.proofs.tests.making.house_over.Goals as goal

pub make-requires-2-clause-sides : goal.make-requires-2-clause-sides
make-requires-2-clause-sides g c = rw c.in_ok-sides.ensures (fresh_sides g.P.ServiceSide.side g.P.ServiceSide.table c.args.plans g.N.Naming.words c.args.side c.requires.one c.requires.side c.requires.table)

pub make-requires-2-clause-results : goal.make-requires-2-clause-results
make-requires-2-clause-results g c = rw c.in_ok-results.ensures c.requires.fresh
