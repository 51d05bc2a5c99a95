-- Which events a journal text tells, and which of its lines is the first that is no event's.
use Rattle.std.specs.Prelude.{◌≡◌, ℕ, zero, suc, ◌+◌, ◌<◌, ◌^◌, false, List, [], ◌∷◌, if◌then◌else◌}
use Rattle.std.specs.List.{All}
use Rattle.script_lines.specs.Text.{ends_line}
use Rattle.gpu_journal.specs.declared.event.Event.{Event}
use Rattle.gpu_journal.specs.declared.event.Event.TheVariants.{Order, Step, Finish, Lost, Close}
use Rattle.gpu_journal.specs.declared.event.Why.TheVariants.{Error, Memory}
use Rattle.journal_text.specs.Text.{event_text, journal_text}
use Rattle.verify_input.specs.declared.fault.JournalFault.{JournalFault}
use Rattle.verify_input.specs.declared.fault.JournalFault.TheVariants as faults

-- a place and a value of 32 bits
abbrev pub IsWord : ℕ × ℕ → Type 0
IsWord word = (word.0 < 2 ^ 32) × (word.1 < 2 ^ 32)

-- an event of numbers of 32 bits; a loss as out of memory has no words
abbrev pub HasNumbersOfWords : Event → Type 0
HasNumbersOfWords (Order stream order place) = (stream < 2 ^ 32) × (order < 2 ^ 32) × (place < 2 ^ 32)
HasNumbersOfWords (Step stream words) = (stream < 2 ^ 32) × All IsWord words
HasNumbersOfWords (Finish stream order) = (stream < 2 ^ 32) × (order < 2 ^ 32)
HasNumbersOfWords (Lost stream (Error error) words) = (stream < 2 ^ 32) × All IsWord words
HasNumbersOfWords (Lost stream Memory words) = (stream < 2 ^ 32) × (words ≡ [])
HasNumbersOfWords (Close stream) = stream < 2 ^ 32

-- the text is the journal text of these events
pub record IsJournal (text : List ℕ) (events : List Event) : Type 0 where
  pub is : text ≡ journal_text events
  pub written : All HasNumbersOfWords events

-- no byte is a line feed
abbrev pub HasNoFeed : List ℕ → Type 0
HasNoFeed text = All (λ byte. ends_line byte ≡ false) text

-- a byte before the lines that follow it, in the first of them
abbrev pub byte_before : ℕ → List (List ℕ) → List (List ℕ)
byte_before byte [] = (byte ∷ []) ∷ []
byte_before byte (line ∷ lines) = (byte ∷ line) ∷ lines

-- the lines of a text, each with the line feed that ends it; what stands after the last one is a line without any
abbrev pub whole_lines : List ℕ → List (List ℕ)
whole_lines [] = []
whole_lines (byte ∷ text) = if ends_line byte then (byte ∷ []) ∷ whole_lines text else byte_before byte (whole_lines text)

-- the line, with its line feed, is the text of this event
abbrev pub IsLineOf : List ℕ → Event → Type 0
IsLineOf line event = HasNumbersOfWords event × (line ≡ event_text event)

-- the line after a given number of others is the first that is no event's
abbrev pub IsFirstBad : List (List ℕ) → ℕ → Type 0
IsFirstBad [] k = ⊥
IsFirstBad (line ∷ lines) zero = (event : Event) → IsLineOf line event → ⊥
IsFirstBad (line ∷ lines) (suc k) = ((event : Event) × IsLineOf line event) × IsFirstBad lines k

-- the line that is refused, counted from 1, is the first of the text that is no event's
abbrev pub IsFault : List ℕ → JournalFault → Type 0
IsFault text (faults.Refused line) = (k : ℕ) × (line ≡ k + 1) × IsFirstBad (whole_lines text) k
IsFault text (faults.Memory refusal) = Unit {0}

-- a text with such a line is the journal text of no events
abbrev pub RefusedIsNoJournal : Type 0
RefusedIsNoJournal = (text : List ℕ) (k : ℕ) (events : List Event) → IsFirstBad (whole_lines text) k → IsJournal text events → ⊥

-- a text is the journal text of one list of events at most
abbrev pub JournalIsOne : Type 0
JournalIsOne = (text : List ℕ) (g h : List Event) → IsJournal text g → IsJournal text h → g ≡ h
