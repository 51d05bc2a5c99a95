-- The facts before a client's action, and what the action leaves.
use Rattle.std.proofs.Common.{◌≡◌, ℕ, ◌+◌, ◌-◌, ◌≤◌, ◌<◌, true, false, Some, List, [], ◌∷◌, ◌++◌, length, get_or, set, refl, sym, ap, subst, ◌∙◌, arith}
use Rattle.std.proofs.lemmas.Bool.{ne_eqb}
use Rattle.std.proofs.lemmas.List.{length-set}
use Rattle.std.specs.Prelude.{slice_get, IfSome}
use Rattle.gpu_plan.specs.Plans.{PlansData, PlanData, plan_of}
use Rattle.gpu_plan.specs.Passes.{flushes, passes, greatest}
use Rattle.gpu_plan.specs.Places.{mark_of}
use Rattle.gpu_fetch.specs.Side.{SideData}
use Rattle.gpu_fetch.specs.Plain.{PlainData, one_further, IsFlush, IsNext, IsBeside, IsNoteBeside}
use Rattle.sync_core.specs.Standing.{IsKnown}
use Rattle.gpu_fetch.proofs.Counting.{flush_counts}
use Rattle.gpu_journal.specs.declared.event.Event.{Event}
use Rattle.gpu_journal.specs.World.{known}
use Rattle.gpu_journal.specs.Facts.{reach}
use Rattle.gpu_journal.specs.Serial.{stays, order_event}
use Rattle.gpu_journal.proofs.Following.{plan_here}
use Rattle.house_core.specs.Core.{is_home}
use Rattle.house_core.specs.Desks.{Out}
use Rattle.gpu_house.specs.Slots.{SlotData, slot_at}
use Rattle.gpu_house.specs.Changes.{with_note}
use Rattle.gpu_run.specs.declared.act.Act.TheVariants.{Stays}
use Rattle.gpu_run.specs.Clients.{RunClientData, client_of_stream, done_at, flushes_to}
use Rattle.gpu_run.specs.Rounds.{ActsAs, GoesFurther, IsRising}
use Rattle.gpu_run.specs.Served.{PlainHouse, HaveOneEach, IsServedAt, IsServed}
use Rattle.gpu_run.proofs.Rows.{client_there, client_same, client_other, slot_same, slot_other}
use Rattle.gpu_run.proofs.Serving.{Keeps, beside_keeps, beside_noted, client_passed, client_ordered, stays_so, has_event, other_home, served_all}
use Rattle.gpu_run.proofs.Reaching.{passes_below, stops_there, stands_still, goes_further, note_fits, flush_left, flush_reached}

-- before an action of the client of stream s: what the house tells of its stream, its plan, and the client
pub record Ready (p : PlansData) (house : PlainHouse) (clients : List RunClientData) (s f t : ℕ) (plan : PlanData) (client : RunClientData) : Type 0 where
  pub is_known : IsKnown (length p.plans) s
  pub served : IsServed p house clients
  pub rising : IsRising p house.core.past
  pub still_open : stays p house.core.past s ≡ true
  pub is_f : f ≡ (known p house.core.past s).finished
  pub is_t : t ≡ greatest (known p house.core.past s).tokens
  pub home_f : IfSome (slot_at house.slots s).side (λ x. x.finished ≡ f)
  pub home_t : IfSome (slot_at house.slots s).side (λ x. x.greatest ≡ t)
  pub its_plan : plan_of p s ≡ plan
  pub in_row : IsKnown (length clients) s
  pub here : client.words ≡ (client_of_stream clients s).words

pub ready_in : (p : PlansData) (house : PlainHouse) (clients : List RunClientData) (s f t : ℕ) (plan : PlanData) (client other : RunClientData) → IsKnown (length p.plans) s → IsServed p house clients → IsRising p house.core.past → stays p house.core.past s ≡ true
    → f ≡ (known p house.core.past s).finished → t ≡ greatest (known p house.core.past s).tokens → (stays p house.core.past s ≡ true → IfSome (slot_at house.slots s).side (λ x. x.finished ≡ f)) → (stays p house.core.past s ≡ true → IfSome (slot_at house.slots s).side (λ x. x.greatest ≡ t))
    → slice_get p.plans (s - 1) ≡ Some plan → client.words ≡ (get_or clients (s - 1) other).words → Ready p house clients s f t plan client
ready_in p house clients s f t plan client other is_known served rising o is_f is_t home_f home_t at read =
    let count = served.many.as_clients in
    let high = is_known.1 in
    let row : IsKnown (length clients) s = (is_known.0, omega (arith, count, high)) in
    record {
      is_known = is_known;
      served = served;
      rising = rising;
      still_open = o;
      is_f = is_f;
      is_t = is_t;
      home_f = home_f o;
      home_t = home_t o;
      its_plan = plan_here p s plan is_known.0 at;
      in_row = row;
      here = read ∙ ap (λ (c : RunClientData). c.words) (client_there clients s other row);
    }

module _ (p : PlansData) (house : PlainHouse) (clients : List RunClientData) (s f t : ℕ) (plan : PlanData) (client : RunClientData) (ready : Ready p house clients s f t plan client) where
  words_here : client.words ≡ (client_of_stream clients s).words
  words_here = ready.here

  own : IsServedAt p house.core.past s (slot_at house.slots s) (client_of_stream clients s).words
  own = (ready.served.each s ready.is_known).1

  low : done_at clients s ≤ reach p house.core.past s
  low = let within = own.client.within in let fresh = ready.rising.fresh s in omega (arith, within, fresh)

  -- the plan is the client's
  pub ready_plan : plan ≡ client.words.plan
  ready_plan = sym ready.its_plan ∙ sym own.client.plan ∙ ap (λ (w : PlainData). w.plan) (sym words_here)

  -- where the next action does not pass, nothing happens
  pub ready_stays : passes plan.actions client.words.done f (t ∷ []) ≡ false → ActsAs p Stays house.core.past house.core.past (done_at clients) (done_at clients) s
  ready_stays stops =
      let there = stops_there p house.core.past s f t (done_at clients s) plan ready.its_plan ready.is_f ready.is_t low (subst (λ (w : PlainData). passes plan.actions w.done f (t ∷ []) ≡ false) words_here stops) in
      (refl, refl, stands_still p house.core.past s clients ready.still_open own.client there)

  module _ (now : RunClientData) (passing : passes plan.actions client.words.done f (t ∷ []) ≡ true) (is : now.words ≡ one_further client.words) where
    below : done_at clients s < reach p house.core.past s
    below = passes_below p house.core.past s f t (done_at clients s) plan ready.its_plan ready.is_f ready.is_t low (subst (λ (w : PlainData). passes plan.actions w.done f (t ∷ []) ≡ true) words_here passing)

    is_here : now.words ≡ one_further (client_of_stream clients s).words
    is_here = is ∙ ap one_further words_here

    pub ready_further : GoesFurther p house.core.past (done_at clients) (done_at (set clients (s - 1) now)) s
    ready_further = goes_further p house.core.past s clients now ready.in_row is_here below

    many : (new : PlainHouse) → length new.slots ≡ length house.slots → length new.core.outs ≡ length house.core.outs → HaveOneEach p new (set clients (s - 1) now)
    many new slots outs = record {
      as_clients = length-set clients (s - 1) now ∙ ready.served.many.as_clients;
      as_slots = slots ∙ ready.served.many.as_slots;
      as_outs = outs ∙ ready.served.many.as_outs;
    }

    there : client_of_stream (set clients (s - 1) now) s ≡ now
    there = client_same clients s now ready.in_row

    keeps_here : Keeps f t client.words now.words → Keeps f t (client_of_stream clients s).words now.words
    keeps_here keeps = subst (λ (w : PlainData). Keeps f t w now.words) words_here keeps

    -- an action that is no flush leaves all streams served
    pub ready_passed : Keeps f t client.words now.words → flushes_to plan (client.words.done + 1) ≡ flushes_to plan client.words.done → IsServed p house (set clients (s - 1) now)
    ready_passed keeps quiet =
        served_all p house (set clients (s - 1) now) s (many house refl refl) (
          (ready.served.each s ready.is_known).0,
          subst (λ (c : RunClientData). IsServedAt p house.core.past s (slot_at house.slots s) c.words) (sym there) record {
            client = client_passed p house.core.past s (client_of_stream clients s).words now.words (ready.rising.fresh s) below is_here
                (subst (λ (q : PlanData). flushes_to q (done_at clients s + 1) ≡ flushes_to q (done_at clients s)) (sym ready.its_plan) (subst (λ (w : PlainData). flushes_to plan (w.done + 1) ≡ flushes_to plan w.done) words_here quiet)) own.client;
            beside = beside_keeps f t (client_of_stream clients s).words now.words (slot_at house.slots s).side (slot_at house.slots s).first (slot_at house.slots s).notes (keeps_here keeps) ready.home_f ready.home_t own.beside;
          },
        )
        (λ u k off. other_home p house house clients (set clients (s - 1) now) u (stays_so refl) refl refl (client_other clients s u now ready.is_known.0 off) (ready.served.each u k))

    module _ (next : IsNext IsFlush plan.actions client.words.done) where
      next_here : IsNext IsFlush plan.actions (done_at clients s)
      next_here = subst (λ (w : PlainData). IsNext IsFlush plan.actions w.done) words_here next

      pub ready_left : (known p house.core.past s).ordered < flushes (plan_of p s).actions
      ready_left = flush_left p house.core.past s (client_of_stream clients s).words plan ready.its_plan ready.still_open own.client next_here

      pub ready_reached : (known p house.core.past s).ordered < flushes_to (plan_of p s) (reach p house.core.past s)
      ready_reached = flush_reached p house.core.past s (client_of_stream clients s).words plan ready.its_plan ready.still_open own.client next_here below

      pub ready_note : (note : ℕ) → note ≡ client.words.done + 1 → note ≡ mark_of (plan_of p s) (known p house.core.past s).ordered
      ready_note note e = note_fits p house.core.past s note (client_of_stream clients s).words plan ready.its_plan ready.still_open own.client next_here (e ∙ ap (λ (w : PlainData). w.done + 1) words_here)

      -- a flush with its order does so too
      pub ready_ordered : (new : PlainHouse) (note : ℕ) → Keeps f t client.words now.words → ((x : SideData) → IsBeside x client.words → IsNoteBeside x now.words note) → new.core.past ≡ order_event p house.core.past s ∷ house.core.past → new.core.outs ≡ house.core.outs → new.slots ≡ with_note house.slots s note
          → IsServed p new (set clients (s - 1) now)
      ready_ordered new note keeps noted event outs slots =
          let slot = slot_at house.slots s in
          let room : IsKnown (length house.slots) s = (ready.is_known.0, (let high = ready.is_known.1 in let all = ready.served.many.as_slots in omega (arith, high, all))) in
          let more : SlotData SideData ℕ = record slot { notes = slot.notes ++ note ∷ [] } in
          let its_slot : slot_at new.slots s ≡ more = ap (λ (row : List (SlotData SideData ℕ)). slot_at row s) slots ∙ slot_same house.slots s more room in
          let one : flushes_to plan (done_at clients s + 1) ≡ flushes_to plan (done_at clients s) + 1 = flush_counts plan.actions (done_at clients s) next_here in
          served_all p new (set clients (s - 1) now) s (many new (ap length slots ∙ length-set house.slots (s - 1) more) (ap length outs)) (
            ap (λ (row : List Out). is_home row s) outs ∙ (ready.served.each s ready.is_known).0,
            subst (λ (c : RunClientData). IsServedAt p new.core.past s (slot_at new.slots s) c.words) (sym there)
                (subst (λ (x : SlotData SideData ℕ). IsServedAt p new.core.past s x now.words) (sym its_slot)
                (subst (λ (g : List Event). IsServedAt p g s more now.words) (sym event) record {
                  client = client_ordered p house.core.past s (client_of_stream clients s).words now.words (ready.rising.fresh s) below is_here (subst (λ (q : PlanData). flushes_to q (done_at clients s + 1) ≡ flushes_to q (done_at clients s) + 1) (sym ready.its_plan) one) own.client;
                  beside = beside_noted f t (client_of_stream clients s).words now.words slot.side slot.first slot.notes note (keeps_here keeps) (subst (λ (w : PlainData). (x : SideData) → IsBeside x w → IsNoteBeside x now.words note) words_here noted) ready.home_f ready.home_t own.beside;
                })),
          )
          (λ u k off. other_home p house new clients (set clients (s - 1) now) u (has_event (order_event p house.core.past s) event (ne_eqb s u (λ q. off (sym q)))) (ap (λ (row : List Out). is_home row u) outs)
          (ap (λ (row : List (SlotData SideData ℕ)). slot_at row u) slots ∙ slot_other house.slots s u more ready.is_known.0 off) (client_other clients s u now ready.is_known.0 off) (ready.served.each u k))
