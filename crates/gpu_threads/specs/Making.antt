-- What a run on threads is made of.
use Rattle.std.specs.Prelude.{◌≡◌, ℕ, suc, ◌+◌, ◌≤◌, List, [], ◌∷◌, length, map, Vec, vec_len, vec_capacity}
use Rattle.std.specs.declared.alloc.Global.{Global}
use Rattle.std.specs.List.{All}
use Rattle.atomic_table.specs.Seated.{TableId}
use Rattle.gpu_cmd.specs.Spans.{words_in}
use Rattle.gpu_plan.specs.Plans.{PlanData}
use Rattle.gpu_fetch.specs.Shared.{side_of}
use Rattle.result_words.specs.Seen.{ResultWriterData}
use Rattle.house_core.specs.Core.{IsFresh, names_of}
use Rattle.gpu_house.specs.Making.{AreFreshSides}
use Rattle.gpu_hall.specs.Takers.{AreFreshTakers}
use Rattle.gpu_hall.specs.declared.full_pass.FullPass.{FullPass}
use Rattle.gpu_threads.specs.declared.parts.Parts.{Parts}
use Rattle.gpu_threads.specs.declared.parts.Service.{Service}
use Rattle.thread_parts.specs.Clients.{ThreadClientData}
use Rattle.gpu_threads.specs.Rows.{shared_in, results_in}

-- the clients are of the streams from s on, in order
abbrev pub AreOfStreamsFrom : ℕ → List ThreadClientData → Type 0
AreOfStreamsFrom s [] = Unit {0}
AreOfStreamsFrom s (client ∷ clients) = (client.stream ≡ s) × AreOfStreamsFrom (suc s) clients

-- there is a client for each plan, in order, of its words, of its result words and of its queue
pub record AreClients (plans : List PlanData) (words results queues : List TableId) (clients : List ThreadClientData) : Type 0 where
  pub numbered : AreOfStreamsFrom 1 clients
  pub plans_are : map (λ (client : ThreadClientData). client.pass.plan) clients ≡ plans
  pub words_are : map (λ (client : ThreadClientData). client.pass.table) clients ≡ words
  pub results_are : map (λ (client : ThreadClientData). client.reader.table) clients ≡ results
  pub queues_are : map (λ (client : ThreadClientData). client.poster.queue) clients ≡ queues

-- there is a writer for each plan, in order, of its result words; it has each result place of the plan, and has written nothing
pub record AreFreshWriters (plans : List PlanData) (results : List TableId) (writers : List ResultWriterData) : Type 0 where
  pub tables_are : map (λ (writer : ResultWriterData). writer.table) writers ≡ results
  pub places_are : map (λ (writer : ResultWriterData). writer.places) writers ≡ map (λ (plan : PlanData). words_in plan.areas.results) plans
  pub none_written : All (λ (writer : ResultWriterData). writer.written ≡ []) writers

-- of each of these plans, in order, the hall has a side, a writer and a taker that have done nothing, and a book whose numbers are all 0
pub record IsFreshService (plans : List PlanData) (words results queues : List TableId) (service : Service) : Type 0 where
  pub sides : AreFreshSides (λ (side : FullPass). side_of side.pass) (λ (side : FullPass). side.pass.table) plans words service.sides.items
  pub takers : AreFreshTakers plans words queues service.takers.items
  pub writers : AreFreshWriters plans results service.results.items
  pub books : length service.books.items ≡ length plans
  pub blank : All IsFresh service.books.items

-- of each of these plans, in order: words and result words, a client that has done nothing, a queue, and what the hall has
pub record HaveDoneNothing (plans : List PlanData) (parts : Parts) : Type 0 where
  pub clients : AreClients plans (shared_in parts.words.items) (results_in parts.words.items) parts.queues.items parts.clients.items
  pub service : IsFreshService plans (shared_in parts.words.items) (results_in parts.words.items) parts.queues.items parts.service

-- the words, the result words, the books and the queues of these parts have these names
pub record AreNamed (words results books queues : List TableId) (parts : Parts) : Type 0 where
  pub words_are : shared_in parts.words.items ≡ words
  pub results_are : results_in parts.words.items ≡ results
  pub books_are : names_of parts.service.books.items ≡ books
  pub queues_are : parts.queues.items ≡ queues

-- ---- one stream more

-- a vector has room for one more, and has what it had
pub record HasRoom {X : Type 0} (old new : Vec X Global) : Type 0 where
  pub items : new.items ≡ old.items
  pub room : vec_len new + 1 ≤ vec_capacity new

-- each of these lists has
pub record HaveRoom (old new : Parts) : Type 0 where
  pub words : HasRoom old.words new.words
  pub queues : HasRoom old.queues new.queues
  pub clients : HasRoom old.clients new.clients
  pub sides : HasRoom old.service.sides new.service.sides
  pub results : HasRoom old.service.results new.service.results
  pub books : HasRoom old.service.books new.service.books
  pub takers : HasRoom old.service.takers new.service.takers
