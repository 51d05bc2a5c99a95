-- Laws of verdicts.
use Rattle.std.specs.Prelude.{◌≡◌, ℕ, List, reverse}
use Rattle.gpu_plan.specs.Plans.{PlansData}
use Rattle.gpu_journal.specs.declared.event.Event.{Event}
use Rattle.gpu_journal.specs.Legal.{IsLegal}
use Rattle.serial_laws.specs.Scripts.{AreLawfulPlans}
use Rattle.journal_verify.specs.Rules.{BreaksFirst}
use Rattle.journal_verify.specs.Answers.{IsFirstWrong}

-- an event that obeys rule 4 after a legal history obeys rule 6, so that is never the first that it breaks
abbrev pub SixIsNeverFirst : Type 0
SixIsNeverFirst = (p : PlansData) (g : List Event) (e : Event) → AreLawfulPlans p → IsLegal p g → BreaksFirst p g e 6 → ⊥

-- a list with a wrong event is no legal history
abbrev pub WrongIsIllegal : Type 0
WrongIsIllegal = (p : PlansData) (events : List Event) (number rule : ℕ) → IsFirstWrong p events number rule → IsLegal p (reverse events) → ⊥

-- one rule alone is the first that an event breaks
abbrev pub RuleIsOne : Type 0
RuleIsOne = (p : PlansData) (g : List Event) (e : Event) (rule other : ℕ) → BreaksFirst p g e rule → BreaksFirst p g e other → rule ≡ other
