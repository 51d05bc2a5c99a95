-- The takers of a hall fit its journal again after each call.
use Rattle.std.proofs.Common.{◌≡◌, ⊎_elim, ℕ, suc, ◌+◌, ◌-◌, ◌<◌, eqb, Bool, true, false, Option, Some, None, List, [], ◌∷◌, length, get_or, set, refl, sym, ap, subst, ◌∙◌, arith, length-set}
use Rattle.std.proofs.lemmas.Bool.{eqb-true}
use Rattle.std.proofs.lemmas.List.{length-map, get_or-map}
use Rattle.std.specs.Prelude.{slice_index_or}
use Rattle.atomic_table.specs.Seated.{TableId}
use Rattle.gpu_plan.specs.Plans.{PlansData, PlanData, no_plan, plan_of}
use Rattle.gpu_plan.specs.Passes.{flushes}
use Rattle.gpu_fetch.specs.Side.{no_table}
use Rattle.flush_queue.specs.Seen.{EndData, one_more}
use Rattle.sync_core.specs.Standing.{Standing, IsKnown, is_open}
use Rattle.sync_core.specs.Events as sync
use Rattle.sync_core.proofs.Rows.{position_of}
use Rattle.gpu_journal.specs.declared.event.Event.{Event}
use Rattle.gpu_journal.specs.declared.event.Event.TheVariants.{Lost}
use Rattle.gpu_journal.specs.declared.event.Why.TheVariants.{Memory}
use Rattle.gpu_journal.specs.World.{World, Known, stream_in, known, world}
use Rattle.gpu_journal.proofs.Worlds.{world_none}
use Rattle.gpu_journal.specs.Waits.{standing_of, deed, drawn}
use Rattle.gpu_journal.specs.Legal.{IsLegal}
use Rattle.gpu_journal.specs.Serial.{order_event}
use Rattle.serial_laws.proofs.Others.{moved_by, standing_own, standing_other, known_own, known_other}
use Rattle.serial_laws.proofs.Flushes.{flush_there}
use Rattle.serial_laws.proofs.Passed.{is_order, ordered_same}
use Rattle.serial_laws.proofs.Ended.{next_open}
use Rattle.gpu_house.proofs.Rows.{each_set}
use Rattle.gpu_hall.specs.Takers.{TakerFits, QueuesFit, AreFreshTakers}
use Rattle.gpu_hall.specs.Collecting.{OrderedOrLost}

-- ---- what an event changes of a stream

-- a stream that is not lost was not lost before
own_kept : (d : Option sync.Deed) (n : ℕ) (x : Standing) → (moved_by d n x).lost ≡ false → x.lost ≡ false
own_kept None n x e = e
own_kept (Some (sync.Ordered fences)) n x e = e
own_kept (Some (sync.Waited t r)) n x e = e
own_kept (Some (sync.Released r)) n x e = e
own_kept (Some sync.Finished) n x e = e
own_kept (Some sync.WasLost) n x e = absurd (cc)
own_kept (Some sync.WasClosed) n x e = e

pub kept_before : (p : PlansData) (e : Event) (h : List Event) (t : ℕ) → (standing_of p (e ∷ h) t).lost ≡ false → (standing_of p h t).lost ≡ false
kept_before p e h t kept = by (eqb (stream_in e) t) refl
  where
    by : (b : Bool) → eqb (stream_in e) t ≡ b → (standing_of p h t).lost ≡ false
    by true q =
        let at = eqb-true (stream_in e) t q in
        let kept' : (standing_of p (e ∷ h) (stream_in e)).lost ≡ false = subst (λ (t : ℕ). (standing_of p (e ∷ h) t).lost ≡ false) (sym at) kept in
        subst (λ (t : ℕ). (standing_of p h t).lost ≡ false) at
        (own_kept (deed p e (world p h)) (drawn p h + 1) (standing_of p h (stream_in e)) (ap (λ (x : Standing). x.lost) (sym (standing_own p e h)) ∙ kept'))
    by false q = ap (λ (x : Standing). x.lost) (sym (standing_other p e h t q)) ∙ kept

module _ (p : PlansData) (words queues : List TableId) where
  abbrev Fits : List Event → ℕ → EndData → Type 0
  Fits h s taker = TakerFits p words queues h s taker

  -- a taker fits another journal that orders as many flushes of its stream
  still_fits : (h g : List Event) (s : ℕ) (x : EndData) → ((standing_of p g s).lost ≡ false → (standing_of p h s).lost ≡ false)
      → ((standing_of p g s).lost ≡ false → (known p g s).ordered ≡ (known p h s).ordered) → Fits h s x → Fits g s x
  still_fits h g s x kept same fit = record { queue = fit.queue; shared = fit.shared; plan = fit.plan; count = λ e. fit.count (kept e) ∙ sym (same e) }

  -- ---- no flush is taken

  pub takers_event : (takers : List EndData) (e : Event) (h : List Event) → is_order e ≡ false → QueuesFit p words queues h takers → QueuesFit p words queues (e ∷ h) takers
  takers_event takers e h not_order fit = record {
    count = fit.count;
    each = λ k other few. still_fits h (e ∷ h) (suc k) (slice_index_or takers k other) (kept_before p e h (suc k)) (λ _. ordered_same p e h (suc k) not_order) (fit.each k other few);
  }

  -- ---- a flush of stream s is taken: its taker was one and is another now

  module _ (h : List Event) (takers : List EndData) (s : ℕ) (was now : EndData) (known_s : IsKnown (length p.plans) s) (read : was ≡ get_or takers (s - 1) was) (fit : QueuesFit p words queues h takers) where
    known_row : IsKnown (length takers) s
    known_row = subst (λ (n : ℕ). IsKnown n s) (sym fit.count) known_s

    pub own : Fits h s was
    own =
        let at = position_of (length takers) s known_row in
        subst (λ (s : ℕ). Fits h s was) at.0 (subst (Fits h (suc (s - 1))) (sym read) (fit.each (s - 1) was at.1))

    one_set : (g : List Event) → Fits g s now → ((t : ℕ) (y : EndData) → eqb s t ≡ false → Fits h t y → Fits g t y) → QueuesFit p words queues g (set takers (s - 1) now)
    one_set g here others = record {
      count = length-set takers (s - 1) now ∙ fit.count;
      each = each_set (Fits h) (Fits g) takers s now known_row here others fit.each;
    }

    other_event : (e : Event) (t : ℕ) (y : EndData) → eqb (stream_in e) t ≡ false → Fits h t y → Fits (e ∷ h) t y
    other_event e t y off f = still_fits h (e ∷ h) t y (kept_before p e h t) (λ _. ap (λ (k : Known). k.ordered) (known_other p e h t off)) f

    -- there was none
    pub none_taken : now ≡ was → QueuesFit p words queues h (set takers (s - 1) now)
    none_taken same = one_set h (subst (Fits h s) (sym same) own) (λ t y off f. f)

    -- it is of a lost stream
    pub lost_taken : now ≡ one_more was → (standing_of p h s).lost ≡ true → QueuesFit p words queues h (set takers (s - 1) now)
    lost_taken more lost =
        one_set h (subst (Fits h s) (sym more) record { queue = own.queue; shared = own.shared; plan = own.plan; count = λ kept. absurd (cc) }) (λ t y off f. f)

    module _ (more : now ≡ one_more was) (few : was.count < flushes was.plan.actions) (kept : (standing_of p h s).lost ≡ false) where
      -- it is the next flush of its stream, which is open
      pub next_taken : (known p h s).ordered < flushes (plan_of p s).actions
      next_taken =
          let count = own.count kept in
          let same : flushes was.plan.actions ≡ flushes (plan_of p s).actions = ap (λ (q : PlanData). flushes q.actions) own.plan in
          omega (arith, few, count, same)

      pub open_taken : IsLegal p h → is_open (standing_of p h s) ≡ true
      open_taken legal = let there = flush_there (plan_of p s).actions (known p h s).ordered next_taken in next_open p h s there.0 legal there.1 kept

      ordered_taken : QueuesFit p words queues (order_event p h s ∷ h) (set takers (s - 1) now)
      ordered_taken =
          let e = order_event p h s in
          one_set (e ∷ h)
          (subst (Fits (e ∷ h) s) (sym more) record {
            queue = own.queue;
            shared = own.shared;
            plan = own.plan;
            count = λ _. ap (λ (n : ℕ). n + 1) (own.count kept) ∙ sym (ap (λ (k : Known). k.ordered) (known_own p e h));
          })
          (λ t y off f. other_event e t y off f)

      losing_taken : QueuesFit p words queues (Lost s Memory [] ∷ h) (set takers (s - 1) now)
      losing_taken =
          let e = Lost s Memory [] in
          one_set (e ∷ h)
          (subst (Fits (e ∷ h) s) (sym more) record {
            queue = own.queue;
            shared = own.shared;
            plan = own.plan;
            count = λ not_lost. absurd (let lost = ap (λ (x : Standing). x.lost) (standing_own p e h) in cc);
          })
          (λ t y off f. other_event e t y off f)

      -- it is ordered, or its stream is lost
      pub one_taken : (g : List Event) → OrderedOrLost p s h g → QueuesFit p words queues g (set takers (s - 1) now)
      one_taken g came = ⊎_elim (λ is. by is ordered_taken) (λ is. by is losing_taken) came
        where
          by : {f : List Event} → g ≡ f → QueuesFit p words queues f (set takers (s - 1) now) → QueuesFit p words queues g (set takers (s - 1) now)
          by is fit = subst (λ (g : List Event). QueuesFit p words queues g (set takers (s - 1) now)) (sym is) fit

-- ---- fresh takers fit the journal without events

pub fresh_takers : (p : PlansData) (words queues : List TableId) (h : List Event) (takers : List EndData) → h ≡ [] → AreFreshTakers p.plans words queues takers → QueuesFit p words queues h takers
fresh_takers p words queues h takers empty fresh = subst (λ (h : List Event). QueuesFit p words queues h takers) (sym empty) record {
  count = sym (length-map takers (λ (t : EndData). t.plan)) ∙ ap length fresh.plans_are;
  each = λ k other few. record {
    queue = sym (get_or-map (λ (t : EndData). t.queue) takers k other no_table few) ∙ ap (λ (row : List TableId). get_or row k no_table) fresh.queues_are;
    shared = sym (get_or-map (λ (t : EndData). t.words) takers k other no_table few) ∙ ap (λ (row : List TableId). get_or row k no_table) fresh.words_are;
    plan = sym (get_or-map (λ (t : EndData). t.plan) takers k other no_plan few) ∙ ap (λ (row : List PlanData). get_or row k no_plan) fresh.plans_are;
    count = λ kept. fresh.none_taken k other few ∙ sym (ap (λ (w : World). (w.streams (suc k)).ordered) (world_none p));
  };
}
