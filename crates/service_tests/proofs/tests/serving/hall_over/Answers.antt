use Rattle.std.proofs.Common.{sym, subst}
use Rattle.gpu_plan.specs.Plans.{PlansData}
use Rattle.gpu_hall.specs.Takers.{AreFreshTakers}
use Rattle.service_tests.proofs.Serving.{fresh_takers, fresh_results}
use Rattle.service_tests.proofs.tests.serving.hall_over.Goals as goal

pub house_over-requires-clause-fresh : goal.house_over-requires-clause-fresh
house_over-requires-clause-fresh g c = fresh_results c.args.plans g.N.Naming.result_words c.args.results c.requires.one c.requires.results.0 c.requires.results.1

pub make-requires-clause-takers : goal.make-requires-clause-takers
make-requires-clause-takers g c =
    let N = g.N.Naming in
    subst (λ (p : PlansData). AreFreshTakers p.plans N.words N.queues c.in_ok-takers.takers.items) c.requires.plans
    (subst (AreFreshTakers c.args.plans.plans N.words N.queues) (sym c.in_ok-takers.ensures)
    (fresh_takers c.args.plans N.words N.queues c.args.side.pass.table c.args.taker c.requires.one c.requires.tables.0 c.requires.tables.1 c.requires.taker))
