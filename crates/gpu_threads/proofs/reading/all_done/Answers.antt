use Rattle.std.proofs.Common.{length, sym, subst, arith}
use Rattle.sync_core.specs.Standing.{IsKnown}
use Rattle.thread_parts.specs.Clients.{ThreadClientData}
use Rattle.gpu_threads.proofs.reading.all_done.Goals as goal

pub is_through-requires : goal.is_through-requires
is_through-requires g c =
    let client = c.client-item.result in
    subst (λ (client : ThreadClientData). IsKnown (length g.N.Naming.plans.plans) client.stream) (sym c.client-item.is) (c.requires.each c.loop-client.client-index client (omega arith)).its.known
