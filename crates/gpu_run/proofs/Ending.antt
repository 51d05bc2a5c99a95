-- The close of a stream whose client stands at its Close.
use Rattle.std.proofs.Common.{◌≡◌, ℕ, ◌-◌, ◌≤◌, zero, suc, Bool, true, false, not, ◌&&◌, ◌↔◌, Some, List, [], ◌∷◌, length, get_or, refl, sym, ap, subst, ◌∙◌, arith}
use Rattle.std.proofs.lemmas.Bool.{ne_eqb, and_left, and_right, not-true}
use Rattle.std.specs.Prelude.{slice_get}
use Rattle.std.specs.List.{list_all}
use Rattle.gpu_plan.specs.declared.plan.Action.{Action}
use Rattle.gpu_plan.specs.declared.plan.Action.TheVariants as actions
use Rattle.gpu_plan.specs.Plans.{PlansData, PlanData, plan_of, is_closed, stays_open}
use Rattle.sync_core.specs.Standing.{Standing, IsKnown, is_open}
use Rattle.gpu_journal.specs.declared.event.Event.{Event}
use Rattle.gpu_journal.specs.declared.event.Event.TheVariants.{Close}
use Rattle.gpu_journal.specs.World.{Known}
use Rattle.gpu_journal.specs.Waits.{standing_of}
use Rattle.gpu_journal.specs.Legal.{MayClose}
use Rattle.gpu_journal.specs.Serial.{stays, is_close}
use Rattle.serial_laws.specs.Scripts.{AreLawfulPlans}
use Rattle.serial_laws.proofs.Obeying.{played_is_legal, may_close}
use Rattle.serial_laws.proofs.Knowns.{known_close}
use Rattle.house_core.specs.Core.{is_home}
use Rattle.house_core.specs.Desks.{Out}
use Rattle.house_core.specs.declared.ends.Closing.{Closing}
use Rattle.house_core.specs.declared.ends.Closing.TheVariants as closing
use Rattle.gpu_house.specs.Slots.{SlotData, slot_at}
use Rattle.gpu_house.specs.Changes.{Appends}
use Rattle.gpu_fetch.specs.Side.{SideData}
use Rattle.gpu_journal.proofs.Following.{plan_here}
use Rattle.gpu_run.specs.Clients.{RunClientData, client_of_stream, done_at}
use Rattle.gpu_run.specs.Rounds.{IsRising, HaveActed, HaveClosed}
use Rattle.gpu_run.specs.Served.{PlainHouse, IsServedAt, IsServed}
use Rattle.gpu_run.proofs.Rows.{client_there}
use Rattle.gpu_run.proofs.Serving.{client_on, has_event, other_home, served_all}
use Rattle.gpu_run.proofs.Phases.{at_close_is, rising_close, acted_close, closed_close}

-- a Close is among the actions where one is
pub closed_there : (xs : List Action) (k : ℕ) → is_close (slice_get xs k) ≡ true → is_closed xs ≡ true
closed_there [] k e = absurd (cc)
closed_there (x ∷ xs) zero e = ap not (and_left (stays_open x) (list_all stays_open xs) (ends x e))
  where
    ends : (a : Action) → is_close (Some a) ≡ true → stays_open a ≡ false
    ends (actions.Put place value) q = absurd (cc)
    ends (actions.Flush put fences) q = absurd (cc)
    ends actions.Finish q = absurd (cc)
    ends (actions.Token token) q = absurd (cc)
    ends actions.Close q = refl
closed_there (x ∷ xs) (suc k) e = ap not (and_right (stays_open x) (list_all stays_open xs) (not-true (list_all stays_open xs) (closed_there xs k e)))

-- a stream that is open and may close is closed
closed_so : (r : Closing) (x : Standing) (May : Type 0) → ((r ≡ closing.Lost) ↔ (x.lost ≡ true)) → ((r ≡ closing.Early) ↔ ((is_open x ≡ true) × (May → ⊥))) → is_open x ≡ true → May → r ≡ closing.Closed
closed_so closing.Closed x May lost early o may = refl
closed_so closing.Lost x May lost early o may = absurd (let off = ap (λ (b : Bool). not b && not x.closed) (lost.0 refl) in cc)
closed_so closing.Early x May lost early o may = absurd ((early.0 refl).1 may)

-- what the close leaves
pub record Closes (p : PlansData) (house new : PlainHouse) (clients : List RunClientData) (s : ℕ) : Type 0 where
  pub rising : IsRising p new.core.past
  pub served : IsServed p new clients
  pub acted : HaveActed p new.core.past (done_at clients) (length p.plans)
  pub closed : HaveClosed p new.core.past s
  pub longer : length house.core.past ≤ length new.core.past

served_close : (p : PlansData) (house new : PlainHouse) (clients : List RunClientData) (s : ℕ) → IsKnown (length p.plans) s → IsServed p house clients → Appends house new (Close s) → IsServed p new clients
served_close p house new clients s is_known served appends =
    let own = served.each s is_known in
    let outs = appends.outs in
    let slots = appends.slots in
    served_all p new clients s record { as_clients = served.many.as_clients; as_slots = ap length slots ∙ served.many.as_slots; as_outs = ap length outs ∙ served.many.as_outs } (
      ap (λ (row : List Out). is_home row s) outs ∙ own.0,
      subst (λ (row : List (SlotData SideData ℕ)). IsServedAt p new.core.past s (slot_at row s) (client_of_stream clients s).words) (sym slots)
          (subst (λ (g : List Event). IsServedAt p g s (slot_at house.slots s) (client_of_stream clients s).words) (sym appends.past) record {
            client = client_on p (Close s) house.core.past s (client_of_stream clients s).words (ap (λ (k : Known). k.ordered) (known_close p house.core.past s)) own.1.client;
            beside = own.1.beside;
          }),
    )
    (λ u k off. other_home p house new clients clients u (has_event (Close s) appends.past (ne_eqb s u (λ q. off (sym q)))) (ap (λ (row : List Out). is_home row u) outs) (ap (λ (row : List (SlotData SideData ℕ)). slot_at row u) slots) refl (served.each u k))

-- so it is where its client stands at its Close
pub close_closes : (p : PlansData) (h : List Event) (clients : List RunClientData) (s : ℕ) (r : Closing) → IsKnown (length p.plans) s → AreLawfulPlans p → IsRising p h → HaveActed p h (done_at clients) (length p.plans) → stays p h s ≡ true → is_close (slice_get (plan_of p s).actions (done_at clients s)) ≡ true
    → ((r ≡ closing.Lost) ↔ ((standing_of p h s).lost ≡ true)) → ((r ≡ closing.Early) ↔ ((is_open (standing_of p h s) ≡ true) × (MayClose p h s → ⊥))) → r ≡ closing.Closed
close_closes p h clients s r is_known lawful rising acted o here lost early =
    let at = at_close_is p h (done_at clients) s true rising acted is_known.0 is_known.1 o here in
    closed_so r (standing_of p h s) (MayClose p h s) lost early o (may_close p h s lawful (played_is_legal p h lawful rising.played) is_known (acted.no_flush s is_known.0 is_known.1) at)

pub closes : (p : PlansData) (house new : PlainHouse) (clients : List RunClientData) (s : ℕ) (r : Closing) → IsKnown (length p.plans) s → AreLawfulPlans p → IsRising p house.core.past → IsServed p house clients → HaveActed p house.core.past (done_at clients) (length p.plans) → HaveClosed p house.core.past (s - 1)
    → stays p house.core.past s ≡ true → is_close (slice_get (plan_of p s).actions (done_at clients s)) ≡ true
    → ((r ≡ closing.Lost) ↔ ((standing_of p house.core.past s).lost ≡ true)) → ((r ≡ closing.Early) ↔ ((is_open (standing_of p house.core.past s) ≡ true) × (MayClose p house.core.past s → ⊥)))
    → (r ≡ closing.Closed → is_open (standing_of p house.core.past s) ≡ true → Appends house new (Close s)) → Closes p house new clients s
closes p house new clients s r is_known lawful rising served acted closed o here lost early event =
    let h = house.core.past in
    let at = at_close_is p h (done_at clients) s true rising acted is_known.0 is_known.1 o here in
    let appends = event (close_closes p h clients s r is_known lawful rising acted o here lost early) o in
    record {
      rising = subst (IsRising p) (sym appends.past) (rising_close p h (done_at clients) s rising acted closed is_known.0 is_known.1 at);
      served = served_close p house new clients s is_known served appends;
      acted = subst (λ (g : List Event). HaveActed p g (done_at clients) (length p.plans)) (sym appends.past) (acted_close p h (done_at clients) s (length p.plans) rising acted);
      closed = subst (λ (g : List Event). HaveClosed p g s) (sym appends.past) (closed_close p h s rising closed);
      longer = let l = ap length appends.past in omega (arith, l);
    }

-- the test that the code makes is that of the client of stream s
pub close_test : (p plans : PlansData) (clients : List RunClientData) (s position : ℕ) (plan : PlanData) (list : List Action) (client : RunClientData) (b : Bool) → plans ≡ p → slice_get plans.plans (s - 1) ≡ Some plan → list ≡ plan.actions → IsKnown (length p.plans) s → length clients ≡ length p.plans
    → client ≡ get_or clients (s - 1) client → position ≡ client.words.done → b ≡ is_close (slice_get list position) → is_close (slice_get (plan_of p s).actions (done_at clients s)) ≡ b
close_test p plans clients s position plan list client b same at listed is_known count read place test =
    let is : plan_of p s ≡ plan = plan_here p s plan is_known.0 (ap (λ (q : PlansData). slice_get q.plans (s - 1)) (sym same) ∙ at) in
    let high = is_known.1 in
    let here : client ≡ client_of_stream clients s = read ∙ client_there clients s client (is_known.0, omega (arith, high, count)) in
    let done : position ≡ done_at clients s = place ∙ ap (λ (c : RunClientData). c.words.done) here in
    ap (λ (q : PlanData). is_close (slice_get q.actions (done_at clients s))) is ∙ ap (λ (l : List Action). is_close (slice_get l (done_at clients s))) (sym listed)
    ∙ ap (λ (k : ℕ). is_close (slice_get list k)) (sym done) ∙ sym test
