-- The law of rule 6, on which no proof rests, applied once: if it said less, this could not be shown.
use Rattle.std.proofs.Common.{ℕ, List}
use Rattle.gpu_plan.specs.Plans.{PlansData}
use Rattle.gpu_journal.specs.declared.event.Event.{Event}
use Rattle.gpu_journal.specs.declared.event.Event.TheVariants.{Finish}
use Rattle.gpu_journal.specs.Legal.{RunsFirstNumber, RunsUnblocked, RunsReachedFlush, IsLegal}
use Rattle.serial_laws.specs.Scripts.{AreLawfulPlans}
use Rattle.journal_verify.specs.Laws.{SixIsNeverFirst}

-- a finish that obeys rules 4 and 5 cannot break rule 6
finish_reached : SixIsNeverFirst → (p : PlansData) (g : List Event) (s n : ℕ) → AreLawfulPlans p → IsLegal p g → RunsFirstNumber p g (Finish s n) → RunsUnblocked p g (Finish s n) → (RunsReachedFlush p g (Finish s n) → ⊥) → ⊥
finish_reached law p g s n lawful legal four five broken = law p g (Finish s n) lawful legal (tt, (tt, (tt, (four, (five, broken)))))
