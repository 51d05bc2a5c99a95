-- The one taker and the one writer of the hall over one stream.
use Rattle.std.proofs.Common.{◌≡◌, ℕ, nat_lt, Some, List, [], ◌∷◌, length, sym, ap, subst, ◌∙◌, arith}
use Rattle.std.proofs.lemmas.Bool.Decides.{nat_tests}
use Rattle.std.proofs.lemmas.List.Elements.{All-nil, All-cons}
use Rattle.atomic_table.specs.Seated.{TableId}
use Rattle.gpu_cmd.specs.Spans.{words_in}
use Rattle.gpu_plan.specs.Plans.{PlansData, PlanData, plan_of}
use Rattle.flush_queue.specs.Seen.{EndData, fresh_end}
use Rattle.result_words.specs.Seen.{ResultWriterData, writer_at}
use Rattle.gpu_house.specs.Making.{AreFreshResults}
use Rattle.gpu_house.specs.Names.{table_at}
use Rattle.gpu_hall.specs.Takers.{AreFreshTakers}
use Rattle.service_tests.proofs.Beginning.{one_plan}

-- a taker that has taken nothing is fresh
pub fresh_takers : (p : PlansData) (words queues : List TableId) (table : TableId) (taker : EndData) → length p.plans ≡ 1 → words ≡ table ∷ [] → queues ≡ taker.queue ∷ [] → taker ≡ fresh_end taker.queue table (plan_of p 1)
    → AreFreshTakers p.plans words queues (taker ∷ [])
fresh_takers p words queues table taker one named queued is = record {
  plans_are = ap (λ (t : EndData). t.plan ∷ []) is ∙ sym (one_plan p one);
  words_are = ap (λ (t : EndData). t.words ∷ []) is ∙ sym named;
  queues_are = sym queued;
  none_taken = All-cons (λ (t : EndData). t.count ≡ 0) taker [] (ap (λ (t : EndData). t.count) is) (All-nil (λ (t : EndData). t.count ≡ 0));
}

-- a writer that has written nothing is fresh
pub fresh_results : (p : PlansData) (tables : List TableId) (writer : ResultWriterData) → length p.plans ≡ 1 → tables ≡ writer.table ∷ [] → writer ≡ writer_at writer.table (words_in (plan_of p 1).areas.results)
    → AreFreshResults (λ (w : ResultWriterData) (place : ℕ). nat_lt place w.places) (λ (w : ResultWriterData). Some w.written) (λ (w : ResultWriterData) (table : TableId). w.table ≡ table) (table_at tables) 1 p.plans (writer ∷ [])
fresh_results p tables writer one named is =
    let many = ap (λ (w : ResultWriterData). w.places) is in
    subst (λ (plans : List PlanData). AreFreshResults (λ (w : ResultWriterData) (place : ℕ). nat_lt place w.places) (λ (w : ResultWriterData). Some w.written) (λ (w : ResultWriterData) (table : TableId). w.table ≡ table) (table_at tables) 1 plans (writer ∷ [])) (sym (one_plan p one)) (
      record {
        shared = sym (ap (λ (row : List TableId). table_at row 1) named);
        takes_all = λ place few. grind (arith, nat_tests, many, few);
        none_written = λ list told. grind (arith, told, ap (λ (w : ResultWriterData). w.written) is);
      },
      tt,
    )
