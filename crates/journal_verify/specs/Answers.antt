-- The answer for a list of events, which has the oldest first.
use Rattle.std.specs.Prelude.{◌≡◌, ℕ, ◌-◌, ◌≤◌, List, take, reverse, Some, None, Option, slice_get}
use Rattle.gpu_plan.specs.Plans.{PlansData}
use Rattle.gpu_journal.specs.declared.event.Event.{Event}
use Rattle.gpu_journal.specs.World.{replay}
use Rattle.gpu_journal.specs.Legal.{Obeys, IsLegal}
use Rattle.gpu_journal.specs.Complete.{IsComplete}
use Rattle.journal_verify.specs.Rules.{BreaksFirst}
use Rattle.journal_verify.specs.declared.verdict.Verdict.{Verdict}
use Rattle.journal_verify.specs.declared.verdict.Verdict.TheVariants.{Yes, No, NotComplete}

-- the event of this number, counted from 1, is the first that breaks a rule, and the rule's number is the least of those
-- that it breaks
pub record IsFirstWrong (p : PlansData) (events : List Event) (number rule : ℕ) : Type 0 where
  pub counted : 1 ≤ number
  pub event : Event
  pub there : slice_get events (number - 1) ≡ Some event
  pub before : IsLegal p (reverse (take (number - 1) events))
  pub breaks : BreaksFirst p (reverse (take (number - 1) events)) event rule

-- the events are a legal history of the plans, and it is complete; the images are those that it leaves
pub record IsWholeHistory (p : PlansData) (h : List Event) : Type 0 where
  pub legal : IsLegal p h
  pub complete : IsComplete p h

-- legal, and not complete
pub record IsUnfinished (p : PlansData) (h : List Event) : Type 0 where
  pub legal : IsLegal p h
  pub unfinished : IsComplete p h → ⊥

-- what a verdict says of the events
abbrev pub VerdictSays : PlansData → List Event → Verdict → Type 0
VerdictSays p events (Yes images) = IsWholeHistory p (reverse events) × (images ≡ replay p (reverse events))
VerdictSays p events (No event rule) = IsFirstWrong p events event rule
VerdictSays p events NotComplete = IsUnfinished p (reverse events)

-- an event obeys all rules, or this is the first that it breaks
abbrev pub IsJudged : PlansData → List Event → Event → Option ℕ → Type 0
IsJudged p g e None = Obeys p g e
IsJudged p g e (Some rule) = BreaksFirst p g e rule
