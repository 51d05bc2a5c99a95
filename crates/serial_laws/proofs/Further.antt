-- After every legal history that is not complete some event is legal that is no loss as out of memory.
use Rattle.std.proofs.Common.{◌≡◌, ℕ, ◌+◌, ◌≤◌, ◌<◌, ◌⊎◌, inl, inr, Bool, true, false, Option, Some, None, List, ◌∷◌, length, refl, arith, ⊎_elim}
use Rattle.std.proofs.lemmas.Bool.{cases_lt}
use Rattle.std.specs.Prelude.{slice_get}
use Rattle.gpu_plan.specs.declared.plan.Action.{Action}
use Rattle.gpu_plan.specs.declared.plan.Action.TheVariants as actions
use Rattle.gpu_plan.specs.Plans.{PlansData, plan_of}
use Rattle.gpu_plan.specs.Passes.{bound}
use Rattle.gpu_plan.specs.Places.{flush_places}
use Rattle.gpu_journal.specs.declared.event.Event.{Event}
use Rattle.gpu_journal.specs.declared.event.Event.TheVariants.{Order, Close}
use Rattle.gpu_journal.specs.World.{known}
use Rattle.gpu_journal.specs.Waits.{IsOpen, standing_of, left_of, drawn}
use Rattle.gpu_journal.specs.Facts.{place_of, flush_of, reach}
use Rattle.gpu_journal.specs.Legal.{MayClose, Obeys, IsLegal}
use Rattle.gpu_journal.specs.Serial.{first, is_close, is_runnable}
use Rattle.serial_laws.specs.Scripts.{AreLawfulPlans}
use Rattle.serial_laws.specs.Going.{is_memory_loss, HasNextFlush}
use Rattle.serial_laws.specs.Laws.{UnfinishedHasEvent}
use Rattle.serial_laws.proofs.First.{first_passes, first_fails}
use Rattle.serial_laws.proofs.Flushes.{flushes_grow, flushes_before, close_is_last}
use Rattle.serial_laws.proofs.Fitting.{fits, open_of_left}
use Rattle.serial_laws.proofs.Passed.{lawful_of}
use Rattle.serial_laws.proofs.Obeying.{CanRun, can_run, close_of, first_placed, runs_on, order_obeys, close_obeys}
use Rattle.serial_laws.proofs.Least.{none_left}
use Rattle.serial_laws.proofs.Ends.{bound_end, unfinished_goes_on}

-- where all flushes before a flush are finished, the client can have come to it
bound_passes : (xs : List Action) (f c : ℕ) (tokens : List ℕ) → ((k : ℕ) → slice_get xs k ≡ Some actions.Close → k + 1 ≡ length xs) → slice_get (flush_places xs) f ≡ Some c → c ≤ bound xs f tokens
bound_passes xs f c tokens last e = ⊎_elim (λ less. absurd (before less)) (λ le. le) (cases_lt (bound xs f tokens) c)
  where
    before : bound xs f tokens < c → ⊥
    before less =
        let q = flushes_before xs f c e in
        let few = q.0 in
        let end = q.1 in
        let grow = flushes_grow xs (bound xs f tokens) c (omega arith) in
        let whole = bound_end xs f tokens (omega (arith, few, grow)) (open' (is_close (slice_get xs (bound xs f tokens))) refl) in
        omega (arith, whole, end, less)
      where
        open' : (b : Bool) → is_close (slice_get xs (bound xs f tokens)) ≡ b → is_close (slice_get xs (bound xs f tokens)) ≡ false
        open' true q =
            let ends = last (bound xs f tokens) (close_of (slice_get xs (bound xs f tokens)) q) in
            let end = (flushes_before xs f c e).1 in
            absurd (omega (arith, ends, end, less))
        open' false q = q

-- the client of each stream with an unprocessed number can have come to the flush of the first
pub flush_reached : (p : PlansData) (h : List Event) (s : ℕ) → AreLawfulPlans p → IsLegal p h → CanRun p h s → flush_of p h s ≤ reach p h s
flush_reached p h s lawful legal can =
    let f = fits p h legal s in
    let o = open_of_left (plan_of p s).actions (place_of h) (known p h s) (standing_of p h s) f can.some in
    bound_passes (plan_of p s).actions (known p h s).finished (flush_of p h s) (known p h s).tokens
    (λ k e. close_is_last (plan_of p s).actions k (lawful_of p s lawful can.isknown).closes_last e)
    (first_placed (place_of h) (flush_places (plan_of p s).actions) (known p h s).finished (left_of p h s) f.placed o.1)

-- an event for each way to go on where no number is left
event_of : (p : PlansData) (h : List Event) (s : ℕ) → IsOpen p h s → HasNextFlush p h s ⊎ MayClose p h s → (e : Event) × (is_memory_loss e ≡ false) × Obeys p h e
event_of p h s open' (inl flush) = (Order s (drawn p h + 1) flush.place, refl, order_obeys p h s flush.place open' flush.next)
event_of p h s open' (inr may) = (Close s, refl, close_obeys p h s may)

pub unfinished_has_event : UnfinishedHasEvent
unfinished_has_event p h lawful legal unfinished = by (first (is_runnable p h) (length p.plans)) refl
  where
    legal_then : (e : Event) × (is_memory_loss e ≡ false) × Obeys p h e → (e : Event) × (is_memory_loss e ≡ false) × IsLegal p (e ∷ h)
    legal_then x = (x.0, x.1, (x.2, legal))

    by : (o : Option ℕ) → first (is_runnable p h) (length p.plans) ≡ o → (e : Event) × (is_memory_loss e ≡ false) × IsLegal p (e ∷ h)
    by (Some s) q =
        let can = can_run p h s legal (first_passes (is_runnable p h) (length p.plans) s q).0 in
        legal_then (runs_on p h s can (flush_reached p h s lawful legal can))
    by None q =
        let on = unfinished_goes_on p h lawful legal (none_left p h legal (first_fails (is_runnable p h) (length p.plans) q)) unfinished in
        legal_then (event_of p h on.stream on.still_open on.further)
