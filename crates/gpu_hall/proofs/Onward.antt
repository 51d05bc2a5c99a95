-- Whenever the lock is free the history is complete, or something can go on.
use Rattle.std.proofs.Common.{◌≡◌, ℕ, zero, suc, ◌⊎◌, inl, inr, ⊎_elim, false, Option, Some, None, List, [], ◌∷◌, refl}
use Rattle.std.specs.Prelude.{slice_index_or}
use Rattle.std.proofs.lemmas.List.Elements.{All-head, All-tail}
use Rattle.gpu_plan.specs.Plans.{PlansData}
use Rattle.gpu_journal.specs.declared.event.Event.{Event}
use Rattle.gpu_journal.specs.Legal.{IsLegal}
use Rattle.gpu_journal.specs.Complete.{IsComplete}
use Rattle.gpu_journal.specs.Serial.{next}
use Rattle.serial_laws.specs.Scripts.{AreLawfulPlans}
use Rattle.serial_laws.specs.Going.{IsIdle, CanGoOn}
use Rattle.serial_laws.proofs.Ends.{ends_where_complete, unfinished_goes_on}
use Rattle.house_core.specs.Core.{out_at}
use Rattle.house_core.specs.Desks.{Out, at_home}
use Rattle.gpu_house.specs.Stuck.{CanGo, IsNotStuck}
use Rattle.gpu_hall.specs.Outs.{NoneIsPaused, RunsOn, IsDoneOrGoesOn}

-- the run of a stream that is out is not paused
not_paused : (outs : List Out) (s : ℕ) → NoneIsPaused outs → (out_at outs s).paused ≡ false
not_paused outs zero none = refl
not_paused outs (suc k) none = by outs k none
  where
    by : (outs : List Out) (k : ℕ) → NoneIsPaused outs → (slice_index_or outs k at_home).paused ≡ false
    by [] k none = refl
    by (out ∷ outs) zero none = All-head (λ (out : Out). out.paused ≡ false) out outs none
    by (out ∷ outs) (suc k) none = by outs k (All-tail (λ (out : Out). out.paused ≡ false) out outs none)

-- where no number is left, the history is complete or can go on
idle_goes : (p : PlansData) (h : List Event) → AreLawfulPlans p → IsLegal p h → IsIdle p h → IsComplete p h ⊎ CanGoOn p h
idle_goes p h lawful legal idle = by (next p h) refl
  where
    by : (o : Option Event) → next p h ≡ o → IsComplete p h ⊎ CanGoOn p h
    by None q = inl ((ends_where_complete p h legal).0 q)
    by (Some e) q = inr (unfinished_goes_on p h lawful legal idle (λ complete. let none = (ends_where_complete p h legal).1 complete in absurd (cc)))

pub done_or_goes_on : (p : PlansData) (h : List Event) (outs : List Out) → AreLawfulPlans p → IsLegal p h → IsNotStuck p h outs → NoneIsPaused outs → IsDoneOrGoesOn p h outs
done_or_goes_on p h outs lawful legal (inl idle) none = record { way = ⊎_elim inl (λ further. inr (inl further)) (idle_goes p h lawful legal idle) }
done_or_goes_on p h outs lawful legal (inr go) none = record { way = inr (inr (go.0, go.1, go.2, on go.3)) }
  where
    on : CanGo p h outs go.0 go.1 → RunsOn p h outs go.0 go.1
    on can = ⊎_elim (λ home. inl (home, can.runnable)) (λ order. inr (order, not_paused outs go.0 none)) can.place
