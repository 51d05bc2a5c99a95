-- Laws on which no proof rests, each applied once: if one of them said less, its case here could not be shown.
use Rattle.std.proofs.Common.{◌≡◌, ℕ, ◌^◌, ◌<◌, true, false, List, ◌++◌, arith}
use Rattle.std.specs.List.{All}
use Rattle.std.proofs.lemmas.List.Elements.{All-append}
use Rattle.gpu_plan.specs.Plans.{PlansData, plan_of}
use Rattle.gpu_plan.specs.Passes.{flushes}
use Rattle.gpu_journal.specs.declared.event.Event.{Event}
use Rattle.gpu_journal.specs.World.{known}
use Rattle.gpu_journal.specs.Waits.{standing_of, drawn}
use Rattle.gpu_journal.specs.Legal.{IsLegal}
use Rattle.gpu_journal.specs.Complete.{IsComplete}
use Rattle.serial_laws.specs.Scripts.{AreLawfulPlans}
use Rattle.serial_laws.specs.Going.{is_memory_loss}
use Rattle.serial_laws.specs.Laws.{LegalCanBeFinished}
use Rattle.serial_laws.specs.Outs.{DrawnFew, ClosedHasOrdered, ClosedIsKept}

-- 32 bits hold every number that is drawn
drawn_fit : DrawnFew → (p : PlansData) (h : List Event) → AreLawfulPlans p → IsLegal p h → drawn p h < 2 ^ 32
drawn_fit law p h lawful legal = let few = law p h lawful legal in omega (arith, few)

-- a stream that has a flush without an order is not closed
not_closed : ClosedHasOrdered → (p : PlansData) (h : List Event) (s : ℕ) → IsLegal p h → (known p h s).ordered < flushes (plan_of p s).actions → (standing_of p h s).closed ≡ true → ⊥
not_closed law p h s legal more closed = let all = law p h s legal closed in omega (arith, all, more)

-- no stream is both lost and closed
one_end : ClosedIsKept → (p : PlansData) (h : List Event) (s : ℕ) → IsLegal p h → (standing_of p h s).lost ≡ true → (standing_of p h s).closed ≡ true → ⊥
one_end law p h s legal lost closed = let kept = law p h s legal closed in cc

-- a whole history without a loss as out of memory, of which a given one is the first part
record IsWithoutLoss (p : PlansData) (h later : List Event) : Type 0 where
  legal : IsLegal p (later ++ h)
  complete : IsComplete p (later ++ h)
  keeps : All (λ event. is_memory_loss event ≡ false) (later ++ h)

-- a legal history without such a loss is the first part of a whole one without any
goes_on_without_loss : LegalCanBeFinished → (p : PlansData) (h : List Event) → AreLawfulPlans p → IsLegal p h → All (λ event. is_memory_loss event ≡ false) h → (later : List Event) × IsWithoutLoss p h later
goes_on_without_loss law p h lawful legal keeps =
    let can = law p h lawful legal in
    (can.later, record { legal = can.legal; complete = can.complete; keeps = All-append (λ event. is_memory_loss event ≡ false) can.later h can.keeps keeps })
