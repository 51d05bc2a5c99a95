use Rattle.std.proofs.Common.{◌≡◌, ℕ, ◌+◌, ◌*◌, ◌<◌, ◌≤◌, Some}
use Rattle.slab.specs.Slab.{get}
use Rattle.sync_core.specs.declared.wait.Wait.{Wait}
use Rattle.sync_core.specs.Queues.{Leads, entry_count}
use Rattle.sync_core.proofs.queues.lines_to.Given as goal

abbrev pub invariant-loop-slot : goal.invariant-loop-slot
invariant-loop-slot l = record {
  lead : (i : ℕ) (w : Wait) → i < l.slot → get l.all.slab i ≡ Some w → Leads l.releases.items l.orders.items i w;
  count : entry_count l.releases.items + entry_count l.orders.items ≤ 2 * l.slot;
}
