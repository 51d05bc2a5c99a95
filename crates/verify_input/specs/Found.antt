-- The verdict on an input.
use Rattle.std.specs.Prelude.{◌≡◌, ◌≢◌, ℕ, zero, suc, ◌+◌, ◌==◌, List, [], ◌∷◌, ◌++◌, length, reverse, Option, Some, None, Result, Ok, Err, if◌then◌else◌}
use Rattle.std.specs.List.{All, concat}
use Rattle.gpu_store.specs.Images.{Pictures}
use Rattle.script_lines.specs.declared.fault.Kind.{Kind}
use Rattle.gpu_plan.specs.Plans.{PlansData}
use Rattle.gpu_plan.specs.Script.{script_of}
use Rattle.gpu_journal.specs.declared.event.Event.{Event}
use Rattle.gpu_journal.specs.World.{replay}
use Rattle.journal_text.specs.Text.{journal_text}
use Rattle.journal_text.specs.Parts.{heads}
use Rattle.verify_input.specs.Reading.{HasNumbersOfWords, IsFirstBad, whole_lines}
use Rattle.verify_input.specs.declared.fault.JournalFault.{JournalFault}
use Rattle.verify_input.specs.declared.fault.JournalFault.TheVariants as faults
use Rattle.journal_verify.specs.Answers.{IsFirstWrong, IsWholeHistory, IsUnfinished}
use Rattle.verify_input.specs.Parts.{script_part, journal_part}
use Rattle.verify_input.specs.declared.finding.Finding.{Finding}
use Rattle.verify_input.specs.declared.finding.Finding.TheVariants.{Refused, NoJournal, No, Differs, NotComplete, Yes}

-- what the script says: its plans, or its first bad line with its first kind
abbrev pub script_in : List ℕ → Result PlansData (ℕ × Kind)
script_in input = script_of (concat (script_part input))

-- the lines that a journal text begins with: in version 2 the head line, and the name line of each stream
abbrev pub head_of : PlansData → List (List ℕ)
head_of p = if p.version == 2 then heads p else []

-- the lines are those of the head, and of the journal text of these events, each of numbers of 32 bits
pub record TellsBehind (heads text : List (List ℕ)) (events : List Event) : Type 0 where
  pub lines : text ≡ heads ++ whole_lines (journal_text events)
  pub written : All HasNumbersOfWords events

-- the input has a lawful script, which says these plans, and its journal text tells these events
pub record Records (input : List ℕ) (p : PlansData) (events : List Event) : Type 0 where
  pub script : script_in input ≡ Ok p
  pub text : List (List ℕ)
  pub there : journal_part input ≡ Some text
  pub told : TellsBehind (head_of p) text events

-- the line after a given number of others is the first that is not as it has to be: it is missing or another than that
-- of the head, or no event's
abbrev pub IsFirstOther : List (List ℕ) → List (List ℕ) → ℕ → Type 0
IsFirstOther [] lines k = IsFirstBad lines k
IsFirstOther (head ∷ heads) [] zero = Unit {0}
IsFirstOther (head ∷ heads) [] (suc k) = ⊥
IsFirstOther (head ∷ heads) (line ∷ lines) zero = line ≢ head
IsFirstOther (head ∷ heads) (line ∷ lines) (suc k) = (line ≡ head) × IsFirstOther heads lines k

-- the line that is refused, counted from 1, is that one
abbrev pub IsOtherAt : List (List ℕ) → List (List ℕ) → JournalFault → Type 0
IsOtherAt heads lines (faults.Refused line) = (k : ℕ) × (line ≡ k + 1) × IsFirstOther heads lines k
IsOtherAt heads lines (faults.Memory refusal) = Unit {0}

-- after a given number of lines of a script there is no line `journal`, and this one would be the next; or the journal
-- text after that line has this one as the first that is not as it has to be
abbrev pub LacksText : PlansData → ℕ → Option (List (List ℕ)) → ℕ → Type 0
LacksText p count None line = line ≡ count + 1
LacksText p count (Some text) line = (k : ℕ) × (line ≡ count + 1 + (k + 1)) × IsFirstOther (head_of p) text k

-- this line of the input is the first bad line of the script, by this first kind
abbrev pub IsNoScript : List ℕ → ℕ → Kind → Type 0
IsNoScript input line kind = script_in input ≡ Err (line, kind)

-- the script is lawful, and this line of the input is missing or refused
abbrev pub HasNoJournal : List ℕ → ℕ → Type 0
HasNoJournal input line = (p : PlansData) × (script_in input ≡ Ok p) × LacksText p (length (script_part input)) (journal_part input) line

-- the journal's event of this number, counted from 1, is the first that breaks a rule, and this is the first that it breaks
abbrev pub BreaksRule : List ℕ → ℕ → ℕ → Type 0
BreaksRule input event rule = (p : PlansData) × (events : List Event) × Records input p events × IsFirstWrong p events event rule

-- the journal is a legal history of the script that is not complete
abbrev pub IsCutShort : List ℕ → Type 0
IsCutShort input = (p : PlansData) × (events : List Event) × Records input p events × IsUnfinished p (reverse events)

-- the journal is a legal and complete history of the script, of a given number of events, and leaves these images
abbrev pub IsRight : List ℕ → Pictures → ℕ → Type 0
IsRight input images count = (p : PlansData) × (events : List Event) × Records input p events × IsWholeHistory p (reverse events) × (images ≡ replay p (reverse events)) × (count ≡ length events)

-- the verdict on an input
abbrev pub Finds : List ℕ → Finding → Type 0
Finds input (Refused line kind) = IsNoScript input line kind
Finds input (NoJournal line) = HasNoJournal input line
Finds input (No event rule) = BreaksRule input event rule
Finds input (Differs line what) = ⊥
Finds input NotComplete = IsCutShort input
Finds input (Yes images events) = IsRight input images events
