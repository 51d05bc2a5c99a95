use Rattle.std.specs.List.{AllWithin}
use Rattle.gpu_threads.specs.Dumps.{IsThrough}
use Rattle.gpu_threads.proofs.reading.all_done.Given as goal

abbrev pub invariant-loop-client : goal.invariant-loop-client
invariant-loop-client g l = AllWithin (IsThrough g.N.Naming.plans l.hall.past) l.clients 0 l.client-index
