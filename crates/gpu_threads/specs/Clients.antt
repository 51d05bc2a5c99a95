-- The clients of a run on threads.
use Rattle.std.specs.Prelude.{◌≡◌, ℕ, ◌+◌, ◌<◌, List, length, slice_index_or}
use Rattle.atomic_table.specs.Seated.{TableId}
use Rattle.gpu_plan.specs.Plans.{PlansData, plan_of}
use Rattle.sync_core.specs.Standing.{IsKnown}
use Rattle.gpu_house.specs.Names.{table_at}
use Rattle.thread_parts.specs.Clients.{ThreadClientData, IsSameClient}

-- the client is one of a run: it is of the plan, the words, the result words and the queue of its stream
pub record IsClientOf (p : PlansData) (words results queues : List TableId) (client : ThreadClientData) : Type 0 where
  pub known : IsKnown (length p.plans) client.stream
  pub plan : client.pass.plan ≡ plan_of p client.stream
  pub shared : client.pass.table ≡ table_at words client.stream
  pub results_are : client.reader.table ≡ table_at results client.stream
  pub queue : client.poster.queue ≡ table_at queues client.stream

-- the client is that of stream s
pub record IsClientAt (p : PlansData) (words results queues : List TableId) (s : ℕ) (client : ThreadClientData) : Type 0 where
  pub stream : client.stream ≡ s
  pub its : IsClientOf p words results queues client

-- these are the clients of the streams from s on, in order
abbrev pub AreClientsFrom : PlansData → List TableId → List TableId → List TableId → ℕ → List ThreadClientData → Type 0
AreClientsFrom p words results queues s clients = (k : ℕ) (other : ThreadClientData) → k < length clients → IsClientAt p words results queues (s + k) (slice_index_or clients k other)

-- these are the clients of all streams, in order
pub record AreClientsOf (p : PlansData) (words results queues : List TableId) (clients : List ThreadClientData) : Type 0 where
  pub many : length clients ≡ length p.plans
  pub each : AreClientsFrom p words results queues 1 clients

-- these are the same clients, in order
pub record AreSameClients (old new : List ThreadClientData) : Type 0 where
  pub many : length new ≡ length old
  pub each : (k : ℕ) (other : ThreadClientData) → k < length old → IsSameClient (slice_index_or old k other) (slice_index_or new k other)
