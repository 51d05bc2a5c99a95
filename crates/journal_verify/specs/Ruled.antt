-- The verdict on a list of events, which has the oldest first, with what they leave.
use Rattle.std.specs.Prelude.{List, reverse}
use Rattle.gpu_plan.specs.Plans.{PlansData}
use Rattle.gpu_journal.specs.declared.event.Event.{Event}
use Rattle.journal_verify.specs.Answers.{IsFirstWrong, IsWholeHistory, IsUnfinished}
use Rattle.journal_verify.specs.Followed.{IsFollowed}
use Rattle.journal_verify.specs.declared.ruling.Ruling.{Ruling}
use Rattle.journal_verify.specs.declared.ruling.Ruling.TheVariants.{Whole, No, NotComplete}

-- what a ruling says of the events
abbrev pub Rules : PlansData → List Event → Ruling → Type 0
Rules p events (Whole followed) = IsWholeHistory p (reverse events) × IsFollowed p (reverse events) followed
Rules p events (No event rule) = IsFirstWrong p events event rule
Rules p events NotComplete = IsUnfinished p (reverse events)
