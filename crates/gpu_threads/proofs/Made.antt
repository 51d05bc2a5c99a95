-- What a run on threads is made of is as the house, the hall and the clients want it.
use Rattle.std.proofs.Common.{◌≡◌, ℕ, zero, suc, ◌+◌, ◌-◌, ◌<◌, true, Some, None, List, [], ◌∷◌, ◌++◌, length, get_or, map, take, sym, ap, subst, ◌∙◌, arith}
use Rattle.std.proofs.lemmas.Bool.Decides.{nat_tests}
use Rattle.std.proofs.lemmas.List.{length-map, get_or-map, length-take-le, map_push, length_push, take_more}
use Rattle.std.proofs.lemmas.List.Elements.{All-push}
use Rattle.std.proofs.lemmas.Option.{get_or_from_slice_get, slice_get_within}
use Rattle.std.specs.Prelude.{nat_lt, slice_get, Vec}
use Rattle.std.specs.declared.alloc.Global.{Global}
use Rattle.std.specs.List.{All}
use Rattle.atomic_table.specs.Seated.{TableId}
use Rattle.gpu_word.specs.Results.{Written}
use Rattle.gpu_cmd.specs.Spans.{words_in}
use Rattle.gpu_plan.specs.Plans.{PlansData, PlanData, no_plan, plan_of}
use Rattle.gpu_fetch.specs.Side.{no_table, fresh_side}
use Rattle.gpu_fetch.specs.Shared.{side_of}
use Rattle.shm_words.specs.Seen.{ServiceData, client_at, service_at}
use Rattle.flush_queue.specs.Seen.{EndData, fresh_end}
use Rattle.result_words.specs.Seen.{ResultWriterData, writer_at, reader_at}
use Rattle.sync_core.specs.Standing.{IsKnown}
use Rattle.house_core.specs.Core.{Booked, IsFresh}
use Rattle.gpu_house.specs.Names.{table_at}
use Rattle.gpu_house.specs.Making.{AreFreshResults}
use Rattle.gpu_hall.specs.declared.full_pass.FullPass.{FullPass}
use Rattle.gpu_threads.specs.declared.parts.Parts.{Parts}
use Rattle.gpu_threads.specs.declared.parts.Service.{Service}
use Rattle.thread_parts.specs.Clients.{ThreadClientData}
use Rattle.gpu_threads.specs.Clients.{AreClientsOf}
use Rattle.gpu_threads.specs.Making.{AreOfStreamsFrom, AreClients, AreFreshWriters, IsFreshService, HaveDoneNothing, AreNamed, HasRoom}
use Rattle.gpu_threads.specs.Rows.{AreShared, shared_in, results_in}
use Rattle.gpu_threads.proofs.Shared.{shared_words}

-- ---- what the house wants

module _ (tables : ℕ → TableId) where
  -- fresh writers of their tables, from stream s on
  writers_from : (s : ℕ) (plans : List PlanData) (writers : List ResultWriterData) → length writers ≡ length plans → ((k : ℕ) (other : ResultWriterData) → k < length writers → (get_or writers k other).table ≡ tables (s + k))
      → map (λ (w : ResultWriterData). w.places) writers ≡ map (λ (plan : PlanData). words_in plan.areas.results) plans → All (λ (w : ResultWriterData). w.written ≡ []) writers
      → AreFreshResults (λ (w : ResultWriterData) (place : ℕ). nat_lt place w.places) (λ (w : ResultWriterData). Some w.written) (λ (w : ResultWriterData) (table : TableId). w.table ≡ table) tables s plans writers
  writers_from s [] [] many named places none = tt
  writers_from s [] (w ∷ writers) many named places none = absurd (omega (arith, many))
  writers_from s (plan ∷ plans) [] many named places none = absurd (omega (arith, many))
  writers_from s (plan ∷ plans) (w ∷ writers) many named places none = (
    record {
      shared = named 0 w (omega arith) ∙ ap tables (let e : s + 0 ≡ s = omega arith in e);
      takes_all = λ place lt. takes place (let same : w.places ≡ words_in plan.areas.results = cc in omega (arith, lt, same));
      none_written = λ list q. some_is w.written list q (none 0 w (omega arith));
    },
    writers_from (suc s) plans writers (omega (arith, many)) (λ k other few. named (suc k) other (omega (arith, few)) ∙ ap tables (let e : s + suc k ≡ suc s + k = omega arith in e)) (let rest : map (λ (w : ResultWriterData). w.places) writers ≡ map (λ (plan : PlanData). words_in plan.areas.results) plans = cc in rest) (λ k other few. none (suc k) other (omega (arith, few))),
  )
    where
      takes : (place : ℕ) → place < w.places → nat_lt place w.places ≡ true
      takes place lt = grind (arith, nat_tests)

      some_is : (xs ys : List Written) → Some xs ≡ Some ys → xs ≡ [] → ys ≡ []
      some_is xs ys same is = cc

-- ---- the clients

numbered_at : (s : ℕ) (clients : List ThreadClientData) → AreOfStreamsFrom s clients → (k : ℕ) (other : ThreadClientData) → k < length clients → (get_or clients k other).stream ≡ s + k
numbered_at s [] are k other few = absurd (omega arith)
numbered_at s (c ∷ cs) are zero other few = let first = are.0 in omega (arith, first)
numbered_at s (c ∷ cs) are (suc k) other few = let rest = numbered_at (suc s) cs are.1 k other (omega arith) in omega (arith, rest)

numbered_push : (s : ℕ) (clients : List ThreadClientData) (client : ThreadClientData) → AreOfStreamsFrom s clients → client.stream ≡ s + length clients → AreOfStreamsFrom s (clients ++ client ∷ [])
numbered_push s [] client are is = (omega (arith, is), tt)
numbered_push s (c ∷ cs) client are is = (are.0, numbered_push (suc s) cs client are.1 (omega (arith, is)))

-- there are as many as plans
clients_many : (plans : List PlanData) (words results queues : List TableId) (clients : List ThreadClientData) → AreClients plans words results queues clients → length clients ≡ length plans
clients_many plans words results queues clients are = sym (length-map clients (λ (c : ThreadClientData). c.pass.plan)) ∙ ap length are.plans_are

pub clients_fit : (p : PlansData) (words results queues : List TableId) (clients : List ThreadClientData) → AreClients p.plans words results queues clients → AreClientsOf p words results queues clients
clients_fit p words results queues clients are =
    let many = clients_many p.plans words results queues clients are in
    record {
      many = many;
      each = λ k other few.
          let c = get_or clients k other in
          let stream : suc k ≡ c.stream = (let e = numbered_at 1 clients are.numbered k other few in omega (arith, e)) in
          record {
            stream = numbered_at 1 clients are.numbered k other few;
            its = record {
              known = subst (IsKnown (length p.plans)) stream (omega arith, omega (arith, many, few));
              plan = sym (get_or-map (λ (c : ThreadClientData). c.pass.plan) clients k other no_plan few) ∙ ap (λ (row : List PlanData). get_or row k no_plan) are.plans_are ∙ ap (plan_of p) stream;
              shared = sym (get_or-map (λ (c : ThreadClientData). c.pass.table) clients k other no_table few) ∙ ap (λ (row : List TableId). get_or row k no_table) are.words_are ∙ ap (table_at words) stream;
              results_are = sym (get_or-map (λ (c : ThreadClientData). c.reader.table) clients k other no_table few) ∙ ap (λ (row : List TableId). get_or row k no_table) are.results_are ∙ ap (table_at results) stream;
              queue = sym (get_or-map (λ (c : ThreadClientData). c.poster.queue) clients k other no_table few) ∙ ap (λ (row : List TableId). get_or row k no_table) are.queues_are ∙ ap (table_at queues) stream;
            };
          };
    }

-- ---- one stream more

module _ {X Y : Type 0} (f : X → Y) where
  one_longer : (xs more : List X) (ys : List Y) (x : X) (y : Y) → more ≡ xs ++ x ∷ [] → map f xs ≡ ys → f x ≡ y → map f more ≡ ys ++ y ∷ []
  one_longer xs more ys x y longer are is = ap (map f) longer ∙ map_push f xs x ∙ ap (λ (row : List Y). row ++ f x ∷ []) are ∙ ap (λ (z : Y). ys ++ z ∷ []) is

-- what is made for one stream
pub record StreamParts : Type 0 where
  pub words : TableId × TableId
  pub queue : TableId
  pub client : ThreadClientData
  pub side : FullPass
  pub results : ResultWriterData
  pub book : Booked
  pub taker : EndData

-- it is made of its plan and with its number
pub record IsMade (stream : ℕ) (plan : PlanData) (made : StreamParts) : Type 0 where
  pub client : made.client ≡ record { stream = stream; pass = client_at made.words.0 plan; poster = fresh_end made.queue made.words.0 plan; held = None; reader = reader_at made.words.1 (words_in plan.areas.results); due = None; dumps = [] }
  pub side : made.side.pass ≡ service_at made.words.0 plan
  pub writer : made.results ≡ writer_at made.words.1 (words_in plan.areas.results)
  pub taker : made.taker ≡ fresh_end made.queue made.words.0 plan
  pub blank : IsFresh made.book

-- each of it is pushed to its list
pub record ArePushed (old new : Parts) (made : StreamParts) : Type 0 where
  pub words : new.words.items ≡ old.words.items ++ made.words ∷ []
  pub queues : new.queues.items ≡ old.queues.items ++ made.queue ∷ []
  pub clients : new.clients.items ≡ old.clients.items ++ made.client ∷ []
  pub sides : new.service.sides.items ≡ old.service.sides.items ++ made.side ∷ []
  pub results : new.service.results.items ≡ old.service.results.items ++ made.results ∷ []
  pub books : new.service.books.items ≡ old.service.books.items ++ made.book ∷ []
  pub takers : new.service.takers.items ≡ old.service.takers.items ++ made.taker ∷ []

-- a list that had room has one thing more
pub room_taken : {X : Type 0} (old mid : Vec X Global) (new : List X) (x : X) → HasRoom old mid → new ≡ mid.items ++ x ∷ [] → new ≡ old.items ++ x ∷ []
room_taken {X = X} old mid new x room pushed = pushed ∙ ap (λ (l : List X). l ++ x ∷ []) room.items

pub one_more : (plans : List PlanData) (plan : PlanData) (old new : Parts) (stream : ℕ) (made : StreamParts) → stream ≡ length plans + 1 → IsMade stream plan made → ArePushed old new made → HaveDoneNothing plans old → HaveDoneNothing (plans ++ plan ∷ []) new
one_more plans plan old new stream made number is grown was =
    let longer = length_push plans plan in
    let kept = was.service in
    let b = ap length grown.books ∙ length_push old.service.books.items made.book in
    let d = kept.books in
    let many = clients_many plans (shared_in old.words.items) (results_in old.words.items) old.queues.items old.clients.items was.clients in
    let its_number : made.client.stream ≡ 1 + length old.clients.items = ap (λ (c : ThreadClientData). c.stream) is.client ∙ omega (arith, number, many) in
    let shared : shared_in new.words.items ≡ shared_in old.words.items ++ made.words.0 ∷ [] = ap shared_in grown.words ∙ map_push (λ (own : TableId × TableId). own.0) old.words.items made.words in
    let results : results_in new.words.items ≡ results_in old.words.items ++ made.words.1 ∷ [] = ap results_in grown.words ∙ map_push (λ (own : TableId × TableId). own.1) old.words.items made.words in
    record {
      clients = record {
        numbered = subst (AreOfStreamsFrom 1) (sym grown.clients) (numbered_push 1 old.clients.items made.client was.clients.numbered its_number);
        plans_are = one_longer (λ (c : ThreadClientData). c.pass.plan) old.clients.items new.clients.items plans made.client plan grown.clients was.clients.plans_are (ap (λ (c : ThreadClientData). c.pass.plan) is.client);
        words_are = one_longer (λ (c : ThreadClientData). c.pass.table) old.clients.items new.clients.items (shared_in old.words.items) made.client made.words.0 grown.clients was.clients.words_are (ap (λ (c : ThreadClientData). c.pass.table) is.client) ∙ sym shared;
        results_are = one_longer (λ (c : ThreadClientData). c.reader.table) old.clients.items new.clients.items (results_in old.words.items) made.client made.words.1 grown.clients was.clients.results_are (ap (λ (c : ThreadClientData). c.reader.table) is.client) ∙ sym results;
        queues_are = one_longer (λ (c : ThreadClientData). c.poster.queue) old.clients.items new.clients.items old.queues.items made.client made.queue grown.clients was.clients.queues_are (ap (λ (c : ThreadClientData). c.poster.queue) is.client) ∙ sym grown.queues;
      };
      service = record {
        sides = (
          one_longer (λ (s : FullPass). side_of s.pass) old.service.sides.items new.service.sides.items (map fresh_side plans) made.side (fresh_side plan) grown.sides kept.sides.0 (ap side_of is.side) ∙ sym (map_push fresh_side plans plan),
          one_longer (λ (s : FullPass). s.pass.table) old.service.sides.items new.service.sides.items (shared_in old.words.items) made.side made.words.0 grown.sides kept.sides.1 (ap (λ (s : ServiceData). s.table) is.side) ∙ sym shared,
        );
        takers = record {
          plans_are = one_longer (λ (t : EndData). t.plan) old.service.takers.items new.service.takers.items plans made.taker plan grown.takers kept.takers.plans_are (ap (λ (t : EndData). t.plan) is.taker);
          words_are = one_longer (λ (t : EndData). t.words) old.service.takers.items new.service.takers.items (shared_in old.words.items) made.taker made.words.0 grown.takers kept.takers.words_are (ap (λ (t : EndData). t.words) is.taker) ∙ sym shared;
          queues_are = one_longer (λ (t : EndData). t.queue) old.service.takers.items new.service.takers.items old.queues.items made.taker made.queue grown.takers kept.takers.queues_are (ap (λ (t : EndData). t.queue) is.taker) ∙ sym grown.queues;
          none_taken = subst (All (λ (t : EndData). t.count ≡ 0)) (sym grown.takers) (All-push (λ (t : EndData). t.count ≡ 0) old.service.takers.items made.taker kept.takers.none_taken (ap (λ (t : EndData). t.count) is.taker));
        };
        writers = record {
          tables_are = one_longer (λ (w : ResultWriterData). w.table) old.service.results.items new.service.results.items (results_in old.words.items) made.results made.words.1 grown.results kept.writers.tables_are (ap (λ (w : ResultWriterData). w.table) is.writer) ∙ sym results;
          places_are = one_longer (λ (w : ResultWriterData). w.places) old.service.results.items new.service.results.items (map (λ (plan : PlanData). words_in plan.areas.results) plans) made.results (words_in plan.areas.results) grown.results kept.writers.places_are (ap (λ (w : ResultWriterData). w.places) is.writer) ∙ sym (map_push (λ (plan : PlanData). words_in plan.areas.results) plans plan);
          none_written = subst (All (λ (w : ResultWriterData). w.written ≡ [])) (sym grown.results) (All-push (λ (w : ResultWriterData). w.written ≡ []) old.service.results.items made.results kept.writers.none_written (ap (λ (w : ResultWriterData). w.written) is.writer));
        };
        books = omega (arith, b, d, longer);
        blank = subst (All IsFresh) (sym grown.books) (All-push IsFresh old.service.books.items made.book kept.blank is.blank);
      };
    }

-- its number is that after the plans before it
pub take_number : (plans : List PlanData) (k : ℕ) (plan : PlanData) → slice_get plans (k + 1 - 1) ≡ Some plan → k + 1 ≡ length (take k plans) + 1
take_number plans k plan e =
    let same : k + 1 - 1 ≡ k = omega arith in
    let few = slice_get_within plans k plan (ap (slice_get plans) (sym same) ∙ e) in
    let n = length-take-le k plans (omega (arith, few)) in
    omega (arith, n)

-- what the hall has is fresh, and so are its writers, as the house wants them
pub service_writers : (p plans : PlansData) (words results queues : List TableId) (service : Service) → plans ≡ p → IsFreshService p.plans words results queues service
    → AreFreshResults (λ (w : ResultWriterData) (place : ℕ). nat_lt place w.places) (λ (w : ResultWriterData). Some w.written) (λ (w : ResultWriterData) (table : TableId). w.table ≡ table) (table_at results) 1 plans.plans service.results.items
service_writers p plans words results queues service plans_are fresh =
    let writers = service.results.items in
    let its : AreFreshWriters plans.plans results writers = subst (λ (q : PlansData). AreFreshWriters q.plans results writers) (sym plans_are) fresh.writers in
    let many : length writers ≡ length plans.plans = sym (length-map writers (λ (w : ResultWriterData). w.places)) ∙ ap length its.places_are ∙ length-map plans.plans (λ (plan : PlanData). words_in plan.areas.results) in
    writers_from (table_at results) 1 plans.plans writers many
    (λ k other few. sym (get_or-map (λ (w : ResultWriterData). w.table) writers k other no_table few) ∙ ap (λ (row : List TableId). get_or row k no_table) its.tables_are ∙ ap (table_at results) (let e : suc k ≡ 1 + k = omega arith in e))
    its.places_are its.none_written

-- ---- by the names of the words and of the queues

module _ (words results books queues : List TableId) (parts : Parts) (named : AreNamed words results books queues parts) where
  pub service_named : (plans : List PlanData) → HaveDoneNothing plans parts → IsFreshService plans words results queues parts.service
  service_named plans fresh =
      subst (λ (row : List TableId). IsFreshService plans words results row parts.service) named.queues_are
      (subst (λ (row : List TableId). IsFreshService plans words row parts.queues.items parts.service) named.results_are
      (subst (λ (row : List TableId). IsFreshService plans row (results_in parts.words.items) parts.queues.items parts.service) named.words_are fresh.service))

  pub clients_named : (plans : List PlanData) → HaveDoneNothing plans parts → AreClients plans words results queues parts.clients.items
  clients_named plans fresh =
      subst (λ (row : List TableId). AreClients plans words results row parts.clients.items) named.queues_are
      (subst (λ (row : List TableId). AreClients plans words row parts.queues.items parts.clients.items) named.results_are
      (subst (λ (row : List TableId). AreClients plans row (results_in parts.words.items) parts.queues.items parts.clients.items) named.words_are fresh.clients))

  -- the words and the queues are by their names
  pub shared_named : (p : PlansData) → HaveDoneNothing p.plans parts → AreShared p words results queues parts.words.items parts.queues.items
  shared_named p fresh =
      let clients = parts.clients.items in
      let many = clients_many p.plans (shared_in parts.words.items) (results_in parts.words.items) parts.queues.items clients fresh.clients in
      let a = ap length fresh.clients.words_are in
      let b = length-map clients (λ (c : ThreadClientData). c.pass.table) in
      let d = length-map parts.words.items (λ (own : TableId × TableId). own.0) in
      let e = ap length fresh.clients.queues_are in
      let f = length-map clients (λ (c : ThreadClientData). c.poster.queue) in
      let q = ap length named.queues_are in
      record {
        words_are = shared_words p words results parts.words.items named.words_are named.results_are (omega (arith, many, a, b, d));
        queues_are = named.queues_are;
        queue_count = omega (arith, many, e, f, q);
      }

-- the plans up to that of one stream more
pub take_plan : (plans : List PlanData) (k : ℕ) (plan : PlanData) → slice_get plans (k + 1 - 1) ≡ Some plan → take k plans ++ plan ∷ [] ≡ take (k + 1) plans
take_plan plans k plan e =
    let same : k + 1 - 1 ≡ k = omega arith in
    let there : slice_get plans k ≡ Some plan = ap (slice_get plans) (sym same) ∙ e in
    ap (λ (x : PlanData). take k plans ++ x ∷ []) (sym (get_or_from_slice_get plans k plan plan there)) ∙ sym (take_more plans k plan (slice_get_within plans k plan there))
