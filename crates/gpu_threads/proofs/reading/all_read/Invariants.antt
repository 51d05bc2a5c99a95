use Rattle.std.proofs.Common.{◌≡◌, suc, ◌+◌, length}
use Rattle.std.specs.List.{All, range_with_len}
use Rattle.gpu_threads.specs.Clients.{AreClientsFrom}
use Rattle.gpu_threads.specs.Dumps.{AreAllRead, IsThrough}
use Rattle.gpu_threads.proofs.reading.all_read.Given as goal

-- those of the clients up to here
abbrev pub invariant-loop-client : goal.invariant-loop-client
invariant-loop-client g l = record {
  same : l.hall ≡ l.fn.hall;
  left : AreClientsFrom g.N.Naming.plans g.N.Naming.words g.N.Naming.result_words g.N.Naming.queues (suc (length l.all.items)) l.client-iterator.rest.items;
  through : All (IsThrough g.N.Naming.plans l.hall.past) l.client-iterator.rest.items;
  many : length l.all.items + length l.client-iterator.rest.items ≡ length g.N.Naming.plans.plans;
  done : AreAllRead g.N.Naming.plans l.hall.past (range_with_len 1 (length l.all.items)) l.all.items;
}
