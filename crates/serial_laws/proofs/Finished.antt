-- Every legal history can be finished without a loss as out of memory.
use Rattle.std.proofs.Common.{◌≡◌, ℕ, zero, suc, ◌+◌, ◌≤◌, false, Option, Some, None, List, [], ◌∷◌, ◌++◌, length, refl, sym, subst, append_assoc, arith}
use Rattle.std.proofs.lemmas.List.Elements.{All-nil, All-cons, All-append}
use Rattle.gpu_plan.specs.Plans.{PlansData}
use Rattle.gpu_journal.specs.declared.event.Event.{Event}
use Rattle.gpu_journal.specs.Legal.{IsLegal}
use Rattle.gpu_journal.specs.Complete.{IsComplete}
use Rattle.gpu_journal.specs.Serial.{next, most_events}
use Rattle.serial_laws.specs.Scripts.{AreLawfulPlans}
use Rattle.serial_laws.specs.Going.{is_memory_loss, CanBeFinished}
use Rattle.serial_laws.specs.Laws.{LegalCanBeFinished}
use Rattle.serial_laws.proofs.Ends.{ends_where_complete}
use Rattle.serial_laws.proofs.Bounded.{legal_is_bounded}
use Rattle.serial_laws.proofs.Further.{unfinished_has_event}

-- the event is no loss as out of memory
abbrev Keeps : Event → Type 0
Keeps e = is_memory_loss e ≡ false

-- what finishes a history with one event more finishes it
finished_behind : (p : PlansData) (e : Event) (h : List Event) → Keeps e → CanBeFinished p (e ∷ h) → CanBeFinished p h
finished_behind p e h keeps can =
    let same : can.later ++ (e ∷ h) ≡ (can.later ++ (e ∷ [])) ++ h = sym (append_assoc can.later (e ∷ []) h) in
    record {
      later = can.later ++ (e ∷ []);
      keeps = All-append Keeps can.later (e ∷ []) can.keeps (All-cons Keeps e [] keeps (All-nil Keeps));
      legal = subst (IsLegal p) same can.legal;
      complete = subst (IsComplete p) same can.complete;
    }

-- a history is complete, or it can be finished by way of one event more
finished_by_way : (p : PlansData) (h : List Event) → AreLawfulPlans p → IsLegal p h → ((e : Event) → IsLegal p (e ∷ h) → CanBeFinished p (e ∷ h)) → CanBeFinished p h
finished_by_way p h lawful legal rest = by (next p h) refl
  where
    by : (o : Option Event) → next p h ≡ o → CanBeFinished p h
    by None q = record { later = []; keeps = All-nil Keeps; legal = legal; complete = (ends_where_complete p h legal).0 q }
    by (Some e) q =
        let on = unfinished_has_event p h lawful legal (λ complete. let none = (ends_where_complete p h legal).1 complete in absurd (cc)) in
        finished_behind p on.0 h on.1 (rest on.0 on.2)

-- no legal history has more than the most events, so n more are enough
finished : (p : PlansData) (n : ℕ) (h : List Event) → AreLawfulPlans p → IsLegal p h → most_events p ≤ length h + n → CanBeFinished p h
finished p zero h lawful legal few = finished_by_way p h lawful legal (λ e longer. let bound = legal_is_bounded p (e ∷ h) lawful longer in absurd (omega (arith, few, bound)))
finished p (suc n) h lawful legal few = finished_by_way p h lawful legal (λ e longer. finished p n (e ∷ h) lawful longer (omega (arith, few)))

pub legal_can_be_finished : LegalCanBeFinished
legal_can_be_finished p h lawful legal = finished p (most_events p) h lawful legal (omega arith)
