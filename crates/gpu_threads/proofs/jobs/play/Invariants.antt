use Rattle.thread_parts.specs.Clients.{IsSameClient}
use Rattle.gpu_threads.proofs.jobs.play.Given as goal

abbrev pub invariant-loop : goal.invariant-loop
invariant-loop g l = record {
  can_next : (goal.iterator-loop g).can_next l.iterator';
  is_finite : (goal.iterator-loop g).is_finite l.iterator';
  client : g.S.Workplace.has l.client;
  same : IsSameClient l.fn.client l.client;
}
