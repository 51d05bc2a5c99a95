use Rattle.std.proofs.Common.{List, sym, subst}
use Rattle.atomic_table.specs.Seated.{TableId}
use Rattle.gpu_threads.specs.Rows.{AreShared}
use Rattle.gpu_threads.proofs.Made.{service_named, clients_named, clients_fit, shared_named}
use Rattle.gpu_threads.proofs.threads.run_named.Goals as goal

pub hall_of-requires-clause-fresh : goal.hall_of-requires-clause-fresh
hall_of-requires-clause-fresh g c =
    let N = g.N.Naming in
    service_named N.words N.result_words N.books N.queues c.args.setup.parts c.requires.named N.plans.plans c.requires.fresh

pub run_hall-requires-clause-shared : goal.run_hall-requires-clause-shared
run_hall-requires-clause-shared g c κs within =
    let N = g.N.Naming in
    let parts = c.args.setup.parts in
    subst (λ (words : List (TableId × TableId)). AreShared N.plans N.words N.result_words N.queues words c.as_slice-2.result.now) (sym c.as_slice.ensures.value)
    (subst (λ (queues : List TableId). AreShared N.plans N.words N.result_words N.queues parts.words.items queues) (sym c.as_slice-2.ensures.value)
    (shared_named N.words N.result_words N.books N.queues parts c.requires.named N.plans c.requires.fresh))

pub run_hall-requires-clause-clients : goal.run_hall-requires-clause-clients
run_hall-requires-clause-clients g c κs within =
    let N = g.N.Naming in
    let parts = c.args.setup.parts in
    clients_fit N.plans N.words N.result_words N.queues parts.clients.items (clients_named N.words N.result_words N.books N.queues parts c.requires.named N.plans.plans c.requires.fresh)
