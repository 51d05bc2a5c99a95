use Rattle.std.proofs.Common.{◌≡◌, ◌++◌, length, map}
use Rattle.std.specs.List.{range_with_len}
use Rattle.gpu_run.specs.Dumps.{dumps_read}
use Rattle.gpu_run.proofs.reading.all_dumps.Given as goal

-- the dumps of the streams up to here
abbrev pub invariant-loop-client : goal.invariant-loop-client
invariant-loop-client g l = record {
  can_next : (goal.iterator-loop-client g).can_next l.client-iterator;
  is_finite : (goal.iterator-loop-client g).is_finite l.client-iterator;
  place : l.stream ≡ length l.yielded;
  left : l.fn.clients.items ≡ l.yielded ++ l.client-iterator.rest.items;
  all : l.all.items ≡ map (dumps_read g.N.Naming.plans l.house.core.past) (range_with_len 1 l.stream);
}
