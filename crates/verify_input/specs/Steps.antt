-- The verdict on the parts of an input.
use Rattle.std.specs.Prelude.{◌≡◌, ℕ, List, length, reverse, Some}
use Rattle.gpu_plan.specs.Plans.{PlansData}
use Rattle.gpu_journal.specs.declared.event.Event.{Event}
use Rattle.gpu_journal.specs.World.{replay}
use Rattle.journal_verify.specs.Answers.{IsFirstWrong, IsWholeHistory, IsUnfinished}
use Rattle.verify_input.specs.Found.{head_of, TellsBehind, LacksText}
use Rattle.verify_input.specs.declared.finding.Finding.{Finding}
use Rattle.verify_input.specs.declared.finding.Finding.TheVariants.{Refused, NoJournal, No, Differs, NotComplete, Yes}

-- the verdict on events of a script with these plans
abbrev pub FindsOf : PlansData → List Event → Finding → Type 0
FindsOf p events (Refused line kind) = ⊥
FindsOf p events (NoJournal line) = ⊥
FindsOf p events (No event rule) = IsFirstWrong p events event rule
FindsOf p events (Differs line what) = ⊥
FindsOf p events NotComplete = IsUnfinished p (reverse events)
FindsOf p events (Yes images count) = IsWholeHistory p (reverse events) × (images ≡ replay p (reverse events)) × (count ≡ length events)

-- the verdict on a journal text after a script of a given number of lines with these plans
abbrev pub FindsIn : PlansData → ℕ → List (List ℕ) → Finding → Type 0
FindsIn p count text (Refused line kind) = ⊥
FindsIn p count text (NoJournal line) = LacksText p count (Some text) line
FindsIn p count text (Differs line what) = ⊥
FindsIn p count text finding = (events : List Event) × TellsBehind (head_of p) text events × FindsOf p events finding
