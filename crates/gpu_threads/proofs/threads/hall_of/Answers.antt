use Rattle.gpu_threads.proofs.Made.{service_writers}
use Rattle.gpu_threads.proofs.threads.hall_of.Goals as goal

pub make-requires-clause-results : goal.make-requires-clause-results
make-requires-clause-results g c =
    let N = g.N.Naming in
    service_writers N.plans c.args.plans N.words N.result_words N.queues c.args.service c.requires.plans c.requires.fresh
