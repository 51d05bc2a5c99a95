-- The clients of a run, in a row.
use Rattle.std.proofs.Common.{◌≡◌, ℕ, suc, ◌+◌, ◌<◌, List, ◌∷◌, ◌++◌, length, get_or, take, sym, ap, subst, ◌∙◌, arith}
use Rattle.std.specs.List.{All}
use Rattle.std.proofs.Math.Seq.{take-append_seam}
use Rattle.atomic_table.specs.Seated.{TableId}
use Rattle.logbook.specs.Pages.{Book}
use Rattle.gpu_plan.specs.Plans.{PlansData, plan_of}
use Rattle.sync_core.specs.Standing.{IsKnown}
use Rattle.live_view.specs.Seen.{ViewerData}
use Rattle.gpu_house.specs.Names.{table_at}
use Rattle.thread_parts.specs.Clients.{ThreadClientData, IsSameClient}
use Rattle.thread_parts.specs.Watches.{HasNotLooked, HasWatched, HaveWatched}
use Rattle.gpu_threads.specs.Clients.{IsClientAt, AreClientsFrom, AreClientsOf, AreSameClients}

-- what a vector has once its items were changed in place
pub whole : {X : Type 0} (n : ℕ) (new rest : List X) → length new ≡ n → take n (new ++ rest) ≡ new
whole n new rest is = ap (λ (k : ℕ). take k (new ++ rest)) (sym is) ∙ take-append_seam new rest

-- the clients of a run stay its clients
module _ (p : PlansData) (words results queues : List TableId) where
  still_at : (s : ℕ) (old new : ThreadClientData) → IsClientAt p words results queues s old → IsSameClient old new → IsClientAt p words results queues s new
  still_at s old new is same =
      let stream = sym same.stream in
      record {
        stream = same.stream ∙ is.stream;
        its = record {
          known = subst (IsKnown (length p.plans)) stream is.its.known;
          plan = same.plan ∙ is.its.plan ∙ ap (plan_of p) stream;
          shared = same.shared ∙ is.its.shared ∙ ap (table_at words) stream;
          results_are = same.results ∙ is.its.results_are ∙ ap (table_at results) stream;
          queue = same.queue ∙ is.its.queue ∙ ap (table_at queues) stream;
        };
      }

  pub still_clients : (old new : List ThreadClientData) → AreClientsOf p words results queues old → AreSameClients old new → AreClientsOf p words results queues new
  still_clients old new are same = record {
    many = same.many ∙ are.many;
    each = λ k other few.
        let many = same.many in
        let low : k < length old = omega (arith, many, few) in
        still_at (1 + k) (get_or old k other) (get_or new k other) (are.each k other low) (same.each k other low);
  }

-- the viewers of a view have not looked
pub not_looked : (view : Book) (watches : List ViewerData) → All (HasWatched view 0) watches → All HasNotLooked watches
not_looked view watches are k other few = (are k other few).count_is

-- viewers stay viewers of their view
pub all_watched : (view : Book) (looks : ℕ) (old new : List ViewerData) → All (HasWatched view 0) old → HaveWatched looks old new → All (HasWatched view looks) new
all_watched view looks old new are have k other few =
    let many = have.many in
    let low : k < length old = omega (arith, many, few) in
    let h = have.each k other low in
    record { view_is = h.view_is ∙ (are k other low).view_is; count_is = h.count_is }

module _ (p : PlansData) (words results queues : List TableId) where
  pub head_at : (s : ℕ) (all rest : List ThreadClientData) (client : ThreadClientData) → all ≡ client ∷ rest → AreClientsFrom p words results queues s all → IsClientAt p words results queues s client
  head_at s all rest client is are =
      let first = subst (AreClientsFrom p words results queues s) is are 0 client (omega arith) in
      subst (λ (t : ℕ). IsClientAt p words results queues t client) (let e : s + 0 ≡ s = omega arith in e) first

  pub tail_from : (s : ℕ) (all rest : List ThreadClientData) (client : ThreadClientData) → all ≡ client ∷ rest → AreClientsFrom p words results queues s all → AreClientsFrom p words results queues (suc s) rest
  tail_from s all rest client is are k other few =
      let next : s + suc k ≡ suc s + k = omega arith in
      subst (λ (t : ℕ). IsClientAt p words results queues t (get_or rest k other)) next (subst (AreClientsFrom p words results queues s) is are (suc k) other (omega (arith, few)))
