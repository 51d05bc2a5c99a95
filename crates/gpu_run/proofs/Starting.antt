-- What is made first is as the house wants it, and the house serves the clients.
use Rattle.std.proofs.Common.{◌≡◌, ℕ, zero, suc, ◌+◌, ◌-◌, ◌<◌, true, Option, Some, None, List, [], ◌∷◌, ◌++◌, length, map, replicate, take, refl, sym, ap, subst, ◌∙◌, arith}
use Rattle.std.proofs.lemmas.List.{length-map, length-replicate, get_or-replicate, get_or-map, map_push, length_push, take_more}
use Rattle.std.proofs.lemmas.List.Elements.{All-nil, All-push}
use Rattle.std.proofs.lemmas.Option.{get_or_from_slice_get, slice_get_within}
use Rattle.std.specs.Prelude.{Bool, slice_get}
use Rattle.std.specs.List.{All}
use Rattle.atomic_table.specs.Seated.{TableId}
use Rattle.gpu_word.specs.Results.{Written}
use Rattle.gpu_plan.specs.Plans.{PlansData, PlanData, no_plan, plan_of}
use Rattle.gpu_fetch.specs.Side.{SideData, fresh_side}
use Rattle.gpu_fetch.specs.Plain.{fresh_words, IsNoteBeside}
use Rattle.sync_core.specs.Standing.{IsKnown}
use Rattle.gpu_journal.specs.declared.event.Event.{Event}
use Rattle.gpu_journal.specs.World.{World, known}
use Rattle.gpu_journal.proofs.Worlds.{world_none}
use Rattle.house_core.specs.Core.{Booked, is_home, IsFresh}
use Rattle.house_core.specs.Desks.{Out, at_home}
use Rattle.gpu_house.specs.Slots.{SlotData, no_slot, slot_at}
use Rattle.gpu_house.specs.Making.{fresh_slot, fresh_slots, AreFreshResults}
use Rattle.gpu_run.specs.declared.parts.Parts.{Parts}
use Rattle.gpu_run.specs.Making.{AreFreshFor}
use Rattle.gpu_run.specs.Clients.{RunClientData, fresh_run_client, no_client, client_of_stream}
use Rattle.gpu_run.specs.Served.{PlainHouse, IsServedAt, IsAtHomeWith, IsServed}

-- ---- what the house wants

-- plain results take every place, tell nothing, and are of any table
abbrev takes_each : Unit {0} → ℕ → Bool
takes_each results place = true

abbrev tells_none : Unit {0} → Option (List Written)
tells_none results = None

abbrev of_any : Unit {0} → TableId → Type 0
of_any results table = Unit {0}

pub plain_results : (tables : ℕ → TableId) (s : ℕ) (plans : List PlanData) (results : List (Unit {0})) → length results ≡ length plans → AreFreshResults takes_each tells_none of_any tables s plans results
plain_results tables s [] [] e = tt
plain_results tables s [] (r ∷ results) e = absurd (omega (arith, e))
plain_results tables s (plan ∷ plans) [] e = absurd (omega (arith, e))
plain_results tables s (plan ∷ plans) (r ∷ results) e = (record { shared = tt; takes_all = λ place lt. refl; none_written = λ list q. absurd (cc) }, plain_results tables (suc s) plans results (omega (arith, e)))

-- ---- what is served

-- a stream of which nothing is done
fresh_at : (p : PlansData) (s : ℕ) → IsServedAt p [] s (fresh_slot (fresh_side (plan_of p s))) (fresh_words (plan_of p s))
fresh_at p s = record {
  client = record {
    plan = refl;
    within = omega arith;
    passed = λ o. ap (λ (w : World). (w.streams s).ordered) (world_none p);
  };
  beside = record {
    side_beside = record { plan = refl; met = omega arith; within = omega arith };
    first_beside = tt;
    notes_beside = All-nil (IsNoteBeside (fresh_side (plan_of p s)) (fresh_words (plan_of p s)));
  };
}

home_at : (n k : ℕ) → k < n → is_home (replicate n at_home) (suc k) ≡ true
home_at n k lt = ap (λ (out : Out). is_home (out ∷ []) 1) (get_or-replicate n k at_home at_home lt)

slot_there : (p : PlansData) (k : ℕ) → k < length p.plans → slot_at (fresh_slots {Note = ℕ} (map fresh_side p.plans)) (suc k) ≡ fresh_slot (fresh_side (plan_of p (suc k)))
slot_there p k lt =
    let n = length-map p.plans fresh_side in
    get_or-map (fresh_slot {Note = ℕ}) (map fresh_side p.plans) k (fresh_side no_plan) no_slot (omega (arith, n, lt))
    ∙ ap (fresh_slot {Note = ℕ}) (get_or-map fresh_side p.plans k no_plan (fresh_side no_plan) lt)

pub served_fresh : (p : PlansData) (house : PlainHouse) (sides : List SideData) (clients : List RunClientData) → house.core.past ≡ [] → house.core.outs ≡ replicate (length p.plans) at_home → house.slots ≡ fresh_slots sides
    → sides ≡ map fresh_side p.plans → clients ≡ map fresh_run_client p.plans → IsServed p house clients
served_fresh p house sides clients past outs slots made begun = record {
  many = record {
    as_clients = ap length begun ∙ length-map p.plans fresh_run_client;
    as_slots = ap length rows ∙ length-map (map fresh_side p.plans) fresh_slot ∙ length-map p.plans fresh_side;
    as_outs = ap length outs ∙ length-replicate (length p.plans) at_home;
  };
  each = at;
}
  where
    rows : house.slots ≡ fresh_slots (map fresh_side p.plans)
    rows = slots ∙ ap fresh_slots made

    at : (s : ℕ) → IsKnown (length p.plans) s → IsAtHomeWith p house clients s
    at zero known = absurd (let low = known.0 in omega (arith, low))
    at (suc k) known =
        let high = known.1 in
        let lt : k < length p.plans = omega (arith, high) in
        let slot : slot_at house.slots (suc k) ≡ fresh_slot (fresh_side (plan_of p (suc k))) = ap (λ (row : List (SlotData SideData ℕ)). slot_at row (suc k)) rows ∙ slot_there p k lt in
        let client : client_of_stream clients (suc k) ≡ fresh_run_client (plan_of p (suc k)) = ap (λ (row : List RunClientData). client_of_stream row (suc k)) begun ∙ get_or-map fresh_run_client p.plans k no_plan no_client lt in (
          ap (λ (row : List Out). is_home row (suc k)) outs ∙ home_at (length p.plans) k lt,
          subst (λ (h : List Event). IsServedAt p h (suc k) (slot_at house.slots (suc k)) (client_of_stream clients (suc k)).words) (sym past)
              (subst (λ (x : SlotData SideData ℕ). IsServedAt p [] (suc k) x (client_of_stream clients (suc k)).words) (sym slot)
              (subst (λ (c : RunClientData). IsServedAt p [] (suc k) (fresh_slot (fresh_side (plan_of p (suc k)))) c.words) (sym client) (fresh_at p (suc k)))),
        )

-- ---- one stream more

pub one_more : (plans : List PlanData) (plan : PlanData) (old new : Parts) (client : RunClientData) (side : SideData) (results : Unit {0}) (book : Booked) → client ≡ fresh_run_client plan → side ≡ fresh_side plan → IsFresh book
    → new.clients.items ≡ old.clients.items ++ client ∷ [] → new.sides.items ≡ old.sides.items ++ side ∷ [] → new.results.items ≡ old.results.items ++ results ∷ [] → new.books.items ≡ old.books.items ++ book ∷ [] → AreFreshFor plans old → AreFreshFor (plans ++ plan ∷ []) new
one_more plans plan old new client side results book its_client its_side blank clients sides more books was =
    let longer = length_push plans plan in
    let a = ap length more ∙ length_push old.results.items results in
    let b = ap length books ∙ length_push old.books.items book in
    let c = was.results in
    let d = was.books in
    record {
      clients = clients ∙ ap (λ (row : List RunClientData). row ++ client ∷ []) was.clients ∙ ap (λ (x : RunClientData). map fresh_run_client plans ++ x ∷ []) its_client ∙ sym (map_push fresh_run_client plans plan);
      sides = sides ∙ ap (λ (row : List SideData). row ++ side ∷ []) was.sides ∙ ap (λ (x : SideData). map fresh_side plans ++ x ∷ []) its_side ∙ sym (map_push fresh_side plans plan);
      results = omega (arith, a, c, longer);
      books = omega (arith, b, d, longer);
      blank = subst (All IsFresh) (sym books) (All-push IsFresh old.books.items book was.blank blank);
    }

-- the plans up to that of one stream more
pub take_plan : (plans : List PlanData) (k : ℕ) (plan : PlanData) → slice_get plans (k + 1 - 1) ≡ Some plan → take k plans ++ plan ∷ [] ≡ take (k + 1) plans
take_plan plans k plan e =
    let same : k + 1 - 1 ≡ k = omega arith in
    let there : slice_get plans k ≡ Some plan = ap (slice_get plans) (sym same) ∙ e in
    ap (λ (x : PlanData). take k plans ++ x ∷ []) (sym (get_or_from_slice_get plans k plan plan there)) ∙ sym (take_more plans k plan (slice_get_within plans k plan there))
