-- The verdict on an input with a whole output.
use Rattle.std.specs.Prelude.{◌≡◌, ℕ, ◌+◌, ◌-◌, ◌⊎◌, List, [], ◌++◌, length, drop, reverse, Option, Some, None, Ok}
use Rattle.std.specs.List.{All}
use Rattle.gpu_store.specs.Images.{Pictures}
use Rattle.gpu_plan.specs.Plans.{PlansData}
use Rattle.gpu_journal.specs.declared.event.Event.{Event}
use Rattle.gpu_journal.specs.World.{replay}
use Rattle.journal_text.specs.Text.{journal_text}
use Rattle.journal_verify.specs.Answers.{IsFirstWrong, IsWholeHistory, IsUnfinished}
use Rattle.verify_input.specs.Reading.{HasNumbersOfWords, IsFirstBad, whole_lines}
use Rattle.verify_input.specs.Parts.{before, behind, script_part}
use Rattle.verify_input.specs.Found.{script_in, head_of, IsNoScript}
use Rattle.verify_input.specs.Due.{dues, heads_due, IsOff, AreDue, IsFirstOff, viewers_in}
use Rattle.verify_input.specs.declared.border.Border.TheVariants.{Script, Journal}
use Rattle.verify_input.specs.declared.what.What.{What}
use Rattle.verify_input.specs.declared.finding.Finding.{Finding}
use Rattle.verify_input.specs.declared.finding.Finding.TheVariants.{Refused, NoJournal, No, Differs, NotComplete, Yes}

-- the lines of the output, which is there where a line `journal` is
abbrev pub output_part : List ℕ → Option (List (List ℕ))
output_part input = behind Script (whole_lines input)

-- the input has a lawful script, which says these plans, and these lines of an output
pub record HasOutput (input : List ℕ) (p : PlansData) (lines : List (List ℕ)) : Type 0 where
  pub script : script_in input ≡ Ok p
  pub there : output_part input ≡ Some lines

-- these lines of an output stand after a script of this number of lines, which says these plans
pub record IsAfterScript (input : List ℕ) (p : PlansData) (count : ℕ) (lines : List (List ℕ)) : Type 0 where
  pub output : HasOutput input p lines
  pub counted : count ≡ length (script_part input)

-- the lines are those of the head, and then these
abbrev pub AreHeaded : PlansData → List (List ℕ) → List (List ℕ) → Type 0
AreHeaded p lines rest = lines ≡ head_of p ++ rest

-- the lines of an output are those of the head, those of the journal text of these events, each of numbers of 32 bits, and
-- these others
pub record TellsAll (p : PlansData) (lines : List (List ℕ)) (events : List Event) (others : List (List ℕ)) : Type 0 where
  pub rest : List (List ℕ)
  pub headed : AreHeaded p lines rest
  pub told : before Journal rest ≡ whole_lines (journal_text events)
  pub written : All HasNumbersOfWords events
  pub left : others ≡ drop (length (before Journal rest)) rest

-- the lines of the output tell these events, which are a legal and complete history, and then these others
pub record ToldWhole (input : List ℕ) (p : PlansData) (events : List Event) (others : List (List ℕ)) : Type 0 where
  pub lines : List (List ℕ)
  pub there : HasOutput input p lines
  pub told : TellsAll p lines events others
  pub whole : IsWholeHistory p (reverse events)

-- after a script of a given number of lines there is no output, and this line would be the next; or this is the first line
-- of its journal that is no event's
abbrev pub LacksEvent : PlansData → ℕ → Option (List (List ℕ)) → ℕ → Type 0
LacksEvent p count None line = line ≡ count + 1
LacksEvent p count (Some lines) line =
    (rest : List (List ℕ)) × AreHeaded p lines rest
    × (k : ℕ) × (line ≡ count + 1 + length (head_of p) + (k + 1)) × IsFirstBad (before Journal rest) k

-- this line is the first of the head that is off, with what is off there
abbrev pub HasBadHead : List ℕ → ℕ → What → Type 0
HasBadHead input line what =
    (p : PlansData) × (lines : List (List ℕ)) × HasOutput input p lines
    × (k : ℕ) × (line ≡ length (script_part input) + 1 + (k + 1)) × IsOff p [] (heads_due p) 0 lines k what

-- this line is the first after the journal that is off, with what is off there
abbrev pub HasBadRest : List ℕ → ℕ → ℕ → What → Type 0
HasBadRest input base line what =
    (p : PlansData) × (events : List Event) × (others : List (List ℕ)) × ToldWhole input p events others
    × (k : ℕ) × (line ≡ length (whole_lines input) - length others + (k + 1))
    × IsFirstOff p (reverse events) (dues p base (reverse events) (viewers_in others)) others k what

-- all lines of the output are due: it is that of a legal and complete history with marks over a base, of this number of events,
-- which leaves these images
abbrev pub IsRightWhole : List ℕ → ℕ → Pictures → ℕ → Type 0
IsRightWhole input base images count =
    (p : PlansData) × (events : List Event) × (others : List (List ℕ)) × ToldWhole input p events others
    × AreDue p (reverse events) (dues p base (reverse events) (viewers_in others)) others
    × (images ≡ replay p (reverse events)) × (count ≡ length events)

-- the verdict on an input with an output, with marks over a base
abbrev pub FindsWhole : ℕ → List ℕ → Finding → Type 0
FindsWhole base input (Refused line kind) = IsNoScript input line kind
FindsWhole base input (NoJournal line) =
    (p : PlansData) × (script_in input ≡ Ok p) × LacksEvent p (length (script_part input)) (output_part input) line
FindsWhole base input (Differs line what) = HasBadHead input line what ⊎ HasBadRest input base line what
FindsWhole base input (No event rule) =
    (p : PlansData) × (lines : List (List ℕ)) × HasOutput input p lines
    × (events : List Event) × (others : List (List ℕ)) × TellsAll p lines events others × IsFirstWrong p events event rule
FindsWhole base input NotComplete =
    (p : PlansData) × (lines : List (List ℕ)) × HasOutput input p lines
    × (events : List Event) × (others : List (List ℕ)) × TellsAll p lines events others × IsUnfinished p (reverse events)
FindsWhole base input (Yes images events) = IsRightWhole input base images events

-- the verdict on events and on the lines after them, of which the first has this number in the input
abbrev pub FindsAll : PlansData → ℕ → List Event → List (List ℕ) → ℕ → Finding → Type 0
FindsAll p base events others start (Refused line kind) = ⊥
FindsAll p base events others start (NoJournal line) = ⊥
FindsAll p base events others start (Differs line what) =
    IsWholeHistory p (reverse events) × (k : ℕ) × (line ≡ start + k)
    × IsFirstOff p (reverse events) (dues p base (reverse events) (viewers_in others)) others k what
FindsAll p base events others start (No event rule) = IsFirstWrong p events event rule
FindsAll p base events others start NotComplete = IsUnfinished p (reverse events)
FindsAll p base events others start (Yes images count) =
    IsWholeHistory p (reverse events) × AreDue p (reverse events) (dues p base (reverse events) (viewers_in others)) others
    × (images ≡ replay p (reverse events)) × (count ≡ length events)
