-- How the takers of a hall are tied to its journal.
use Rattle.std.specs.Prelude.{◌≡◌, ℕ, suc, ◌<◌, false, List, length, map, slice_index_or}
use Rattle.std.specs.List.{All}
use Rattle.atomic_table.specs.Seated.{TableId}
use Rattle.gpu_plan.specs.Plans.{PlansData, PlanData, plan_of}
use Rattle.flush_queue.specs.Seen.{EndData}
use Rattle.gpu_journal.specs.declared.event.Event.{Event}
use Rattle.gpu_journal.specs.World.{known}
use Rattle.gpu_journal.specs.Waits.{standing_of}
use Rattle.gpu_house.specs.Names.{table_at}

-- the taker of stream s is of the stream's queue, of its words and of its plan, and has taken as many flushes as the journal orders,
-- unless the stream is lost
pub record TakerFits (p : PlansData) (words queues : List TableId) (h : List Event) (s : ℕ) (taker : EndData) : Type 0 where
  pub queue : taker.queue ≡ table_at queues s
  pub shared : taker.words ≡ table_at words s
  pub plan : taker.plan ≡ plan_of p s
  pub count : (standing_of p h s).lost ≡ false → taker.count ≡ (known p h s).ordered

-- the clause `queues`: there is a taker for each stream, in order, and each fits
pub record QueuesFit (p : PlansData) (words queues : List TableId) (h : List Event) (takers : List EndData) : Type 0 where
  pub count : length takers ≡ length p.plans
  pub each : (k : ℕ) (other : EndData) → k < length takers → TakerFits p words queues h (suc k) (slice_index_or takers k other)

-- there is a taker for each plan, in order, of its queue and of its words, and none has taken a flush
pub record AreFreshTakers (plans : List PlanData) (words queues : List TableId) (takers : List EndData) : Type 0 where
  pub plans_are : map (λ (taker : EndData). taker.plan) takers ≡ plans
  pub words_are : map (λ (taker : EndData). taker.words) takers ≡ words
  pub queues_are : map (λ (taker : EndData). taker.queue) takers ≡ queues
  pub none_taken : All (λ taker. taker.count ≡ 0) takers
