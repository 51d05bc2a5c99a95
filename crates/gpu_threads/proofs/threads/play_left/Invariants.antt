use Rattle.gpu_threads.specs.Clients.{AreClientsOf}
use Rattle.gpu_threads.proofs.threads.play_left.Given as goal

abbrev pub invariant-loop : goal.invariant-loop
invariant-loop g l = record {
  can_next : (goal.iterator-loop g).can_next l.iterator';
  is_finite : (goal.iterator-loop g).is_finite l.iterator';
  clients : AreClientsOf g.N.Naming.plans g.N.Naming.words g.N.Naming.result_words g.N.Naming.queues l.clients;
}
