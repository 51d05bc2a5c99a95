-- The puts that follow one another.
use Rattle.std.proofs.Common.{◌≡◌, ◌≢◌, ℕ, zero, suc, ◌+◌, ◌-◌, ◌≤◌, ◌<◌, ◌⊎◌, inl, inr, Option, Some, List, [], ◌∷◌, ◌++◌, length, get_or, set, take, refl, sym, ap, subst, ◌∙◌, arith}
use Rattle.std.proofs.lemmas.List.{length-set}
use Rattle.std.proofs.lemmas.List.Elements.{All-head, All-tail, All-weaker}
use Rattle.std.specs.Prelude.{slice_get}
use Rattle.std.specs.List.{All}
use Rattle.std.specs.Option.{IsSomeAnd}
use Rattle.gpu_cmd.specs.declared.areas.Span.{Span}
use Rattle.gpu_plan.specs.declared.plan.Action.{Action}
use Rattle.gpu_plan.specs.Plans.{PlansData, PlanData, no_plan, plan_of, IsDump, RiseFrom}
use Rattle.gpu_plan.specs.Passes.{flushes, greatest}
use Rattle.gpu_fetch.specs.Side.{SideData}
use Rattle.gpu_fetch.specs.Plain.{PlainData, ArePuts, IsNext, IsPut, IsBeside, IsNoteBeside}
use Rattle.gpu_fetch.proofs.Putting.{bound_puts, apart}
use Rattle.sync_core.specs.Standing.{IsKnown}
use Rattle.gpu_fetch.proofs.Counting.{put_counts}
use Rattle.gpu_journal.specs.declared.event.Event.{Event}
use Rattle.gpu_journal.specs.World.{known}
use Rattle.gpu_journal.specs.Facts.{reach}
use Rattle.gpu_journal.specs.Serial.{count}
use Rattle.gpu_journal.proofs.Following.{plan_here}
use Rattle.serial_laws.specs.Scripts.{AreLawfulPlans}
use Rattle.serial_laws.proofs.First.{nat_cases}
use Rattle.serial_laws.proofs.Tokens.{reach_is}
use Rattle.gpu_house.specs.Slots.{slot_at}
use Rattle.gpu_run.specs.Clients.{RunClientData, client_of_stream, done_at, flushes_to, IsCounted}
use Rattle.gpu_run.specs.Reading.{HasRead, HaveRead}
use Rattle.gpu_run.specs.Served.{PlainHouse, IsOrderedClient, IsServedAt, IsServed}
use Rattle.gpu_run.specs.Stands.{Acting, Stands}
use Rattle.gpu_run.proofs.Rows.{client_there, client_same, client_other}
use Rattle.gpu_run.proofs.Serving.{beside_puts, stays_so, other_home, served_all}
use Rattle.gpu_run.proofs.Phases.{acted_passed}

-- ---- puts that follow one another

quiet_puts : (actions : List Action) (from n : ℕ) → ArePuts actions from (from + n) → flushes (take (from + n) actions) ≡ flushes (take from actions)
quiet_puts actions from zero puts = ap (λ (k : ℕ). flushes (take k actions)) (omega arith)
quiet_puts actions from (suc n) puts =
    let more : from + suc n ≡ (from + n) + 1 = omega arith in
    ap (λ (k : ℕ). flushes (take k actions)) more ∙ put_counts actions (from + n) (puts (from + n) (omega arith) (omega arith)) ∙ quiet_puts actions from n (λ k low high. puts k low (omega (arith, high)))

-- no flush is among them
pub puts_quiet : (actions : List Action) (from to : ℕ) → from ≤ to → ArePuts actions from to → flushes (take to actions) ≡ flushes (take from actions)
puts_quiet actions from to le puts =
    let far = apart from to le in
    ap (λ (k : ℕ). flushes (take k actions)) far ∙ quiet_puts actions from (to - from) (subst (ArePuts actions from) far puts)

-- the client may do them all
puts_reach : (p : PlansData) (h : List Event) (s from to : ℕ) → from ≤ to → ArePuts (plan_of p s).actions from to → from ≤ reach p h s → to ≤ reach p h s
puts_reach p h s from to le puts low =
    let far = apart from to le in
    let is = reach_is p h s in
    let there = bound_puts (plan_of p s).actions from (to - from) (known p h s).finished (greatest (known p h s).tokens ∷ []) (omega (arith, is, low)) (subst (ArePuts (plan_of p s).actions from) far puts) in
    omega (arith, is, there, far)

-- a client counts on over puts
pub counted_puts : (old new : PlainData) (plan : PlanData) (position was flushed : ℕ) → plan ≡ old.plan → new.plan ≡ old.plan → position ≡ new.done → flushed ≡ was → was ≡ flushes_to old.plan old.done → old.done ≤ new.done → ArePuts plan.actions old.done new.done → IsCounted new position flushed
counted_puts old new plan position was flushed same kept place still made le puts =
    let quiet = puts_quiet old.plan.actions old.done new.done le (subst (λ (q : PlanData). ArePuts q.actions old.done new.done) same puts) in
    record { place = place; made = still ∙ made ∙ sym quiet ∙ ap (λ (q : PlanData). flushes_to q new.done) (sym kept) }

-- ---- no dump is among them

no_dump : (actions : List Action) (results : List (Option Span)) (dump : ℕ × ℕ) → IsDump results actions dump → IsNext IsPut actions dump.0 → ⊥
no_dump actions results dump is put = subst (λ (o : Option Action). IsSomeAnd o IsPut) is.0 put

rise_on : (actions : List Action) (results : List (Option Span)) (dumps : List (ℕ × ℕ)) (from to : ℕ) → All (IsDump results actions) dumps → ArePuts actions from to → RiseFrom from dumps → RiseFrom to dumps
rise_on actions results [] from to all puts rises = tt
rise_on actions results (dump ∷ dumps) from to all puts rises =
    let low = rises.0 in
    let beyond : dump.0 < to → ⊥ = λ lt. no_dump actions results dump (All-head (IsDump results actions) dump dumps all) (puts dump.0 low lt) in
    (omega (arith, low, beyond), rises.1)

all_behind : {X : Type 0} (P : X → Type 0) (xs ys : List X) → All P (xs ++ ys) → All P ys
all_behind P [] ys all = all
all_behind P (x ∷ xs) ys all = all_behind P xs ys (All-tail P x (xs ++ ys) all)

dumps_lawful : (p : PlansData) (s : ℕ) → AreLawfulPlans p → IsKnown (length p.plans) s → All (IsDump (plan_of p s).areas.results (plan_of p s).actions) (plan_of p s).dumps
dumps_lawful p zero lawful is_known = absurd (let low = is_known.0 in omega (arith, low))
dumps_lawful p (suc k) lawful is_known = (lawful.each k no_plan (let high = is_known.1 in omega (arith, high))).1

-- so the client has read what it should
read_puts : (p : PlansData) (h : List Event) (s from to : ℕ) (read : List (ℕ × ℕ × ℕ)) → AreLawfulPlans p → IsKnown (length p.plans) s → from ≤ to → to ≤ count p h s → ArePuts (plan_of p s).actions from to → HasRead p h s from read → HasRead p h s to read
read_puts p h s from to read lawful is_known le within puts old =
    let plan = plan_of p s in
    let ahead = all_behind (IsDump plan.areas.results plan.actions) old.behind old.ahead (subst (All (IsDump plan.areas.results plan.actions)) (sym old.dumps) (dumps_lawful p s lawful is_known)) in
    record {
      behind = old.behind;
      ahead = old.ahead;
      dumps = old.dumps;
      found = old.found;
      passed = All-weaker (λ (d : ℕ × ℕ). d.0 < from) (λ (d : ℕ × ℕ). d.0 < to) (λ d lt. omega (arith, lt, le)) old.behind old.passed;
      rising = λ r. rise_on plan.actions plan.areas.results old.ahead from to ahead puts (old.rising r);
      within = within;
      still = λ action place low. old.still action place (omega (arith, low, le));
    }

-- ---- the client of stream s has done puts

-- what puts leave of a client
pub record HasPut (actions : List Action) (old new : RunClientData) : Type 0 where
  pub plan : new.words.plan ≡ old.words.plan
  pub read : new.read ≡ old.read
  pub further : old.words.done ≤ new.words.done
  pub puts : ArePuts actions old.words.done new.words.done
  pub beside : (side : SideData) → IsBeside side old.words → IsBeside side new.words
  pub notes : (side : SideData) (mark : ℕ) → IsNoteBeside side old.words mark → IsNoteBeside side new.words mark

-- the plan that the code takes is the client's
pub its_plan : (p : PlansData) (house : PlainHouse) (clients : List RunClientData) (s : ℕ) (plan : PlanData) (other : RunClientData) → IsKnown (length p.plans) s → IsServed p house clients → slice_get p.plans (s - 1) ≡ Some plan → plan ≡ (get_or clients (s - 1) other).words.plan
its_plan p house clients s plan other is_known served at =
    let high = is_known.1 in
    let many = served.many.as_clients in
    let here : get_or clients (s - 1) other ≡ client_of_stream clients s = client_there clients s other (is_known.0, omega (arith, high, many)) in
    let own = (served.each s is_known).1 in
    sym (plan_here p s plan is_known.0 at) ∙ sym own.client.plan ∙ ap (λ (c : RunClientData). c.words.plan) (sym here)

-- the same by what the code tells of the plan and the client
pub has_put : (p : PlansData) (clients : List RunClientData) (s : ℕ) (plan : PlanData) (client other now : RunClientData) → IsKnown (length p.plans) s → length clients ≡ length p.plans → client ≡ get_or clients (s - 1) other → slice_get p.plans (s - 1) ≡ Some plan → HasPut plan.actions client now → HasPut (plan_of p s).actions (client_of_stream clients s) now
has_put p clients s plan client other now is_known many read at has =
    let high = is_known.1 in
    let here : client ≡ client_of_stream clients s = read ∙ client_there clients s other (is_known.0, omega (arith, high, many)) in
    subst (λ (c : RunClientData). HasPut (plan_of p s).actions c now) here (subst (λ (q : PlanData). HasPut q.actions client now) (sym (plan_here p s plan is_known.0 at)) has)

module _ (p : PlansData) (house : PlainHouse) (clients : List RunClientData) (s : ℕ) (now : RunClientData) (is_known : IsKnown (length p.plans) s) (stands : Stands (Acting (s - 1)) p house clients) (has : HasPut (plan_of p s).actions (client_of_stream clients s) now) where
  abbrev after : List RunClientData
  after = set clients (s - 1) now

  in_row : IsKnown (length clients) s
  in_row = (is_known.0, (let high = is_known.1 in let many = stands.served.many.as_clients in omega (arith, high, many)))

  there : client_of_stream after s ≡ now
  there = client_same clients s now in_row

  other : (t : ℕ) → t ≢ s → client_of_stream after t ≡ client_of_stream clients t
  other t off = client_other clients s t now is_known.0 off

  own : IsServedAt p house.core.past s (slot_at house.slots s) (client_of_stream clients s).words
  own = (stands.served.each s is_known).1

  within : now.words.done ≤ count p house.core.past s
  within =
      let fresh = stands.rising.fresh s in
      let low = own.client.within in
      let far = puts_reach p house.core.past s (done_at clients s) now.words.done has.further has.puts (omega (arith, fresh, low)) in
      omega (arith, fresh, far)

  client : IsOrderedClient p house.core.past s now.words
  client = record {
    plan = has.plan ∙ own.client.plan;
    within = within;
    passed = λ o. own.client.passed o ∙ sym (puts_quiet (plan_of p s).actions (done_at clients s) now.words.done has.further has.puts);
  }

  served : IsServed p house after
  served =
      served_all p house after s record { as_clients = length-set clients (s - 1) now ∙ stands.served.many.as_clients; as_slots = stands.served.many.as_slots; as_outs = stands.served.many.as_outs } (
        (stands.served.each s is_known).0,
        subst (λ (c : RunClientData). IsServedAt p house.core.past s (slot_at house.slots s) c.words) (sym there) record {
          client = client;
          beside = beside_puts (client_of_stream clients s).words now.words (slot_at house.slots s).side (slot_at house.slots s).first (slot_at house.slots s).notes (λ f t. record { beside = λ x a b. has.beside x; notes = λ x n a b. has.notes x n }) own.beside;
        },
      )
      (λ t k off. other_home p house house clients after t (stays_so refl) refl refl (other t off) (stands.served.each t k))

  read : HaveRead p house.core.past after
  read t k = by (nat_cases t s)
    where
      mine : HasRead p house.core.past s now.words.done now.read
      mine = subst (HasRead p house.core.past s now.words.done) (sym has.read) (read_puts p house.core.past s (done_at clients s) now.words.done (client_of_stream clients s).read stands.lawful is_known has.further within has.puts (stands.read s is_known))

      by : (t ≡ s) ⊎ (t ≢ s) → HasRead p house.core.past t (done_at after t) (client_of_stream after t).read
      by (inl same) = subst (λ (u : ℕ). HasRead p house.core.past u (done_at after u) (client_of_stream after u).read) (sym same) (subst (λ (c : RunClientData). HasRead p house.core.past s c.words.done c.read) (sym there) mine)
      by (inr off) = subst (λ (c : RunClientData). HasRead p house.core.past t c.words.done c.read) (sym (other t off)) (stands.read t k)

  pub puts_stand : Stands (Acting (s - 1)) p house (set clients (s - 1) now)
  puts_stand = record {
    lawful = stands.lawful;
    rising = stands.rising;
    served = served;
    read = read;
    come = acted_passed p house.core.past (done_at clients) (done_at after) s stands.come (λ t off. ap (λ (c : RunClientData). c.words.done) (other t off));
  }

  pub puts_further : done_at clients s ≤ done_at (set clients (s - 1) now) s
  puts_further = subst (λ (c : RunClientData). done_at clients s ≤ c.words.done) (sym there) has.further
