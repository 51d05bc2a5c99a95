-- What the texts tell.
use Rattle.std.specs.Prelude.{◌≡◌, ℕ, ◌^◌, ◌<◌, ◌==◌, Bool, true, false, IsTrue, List, [], ◌∷◌, ◌++◌, codes, bytes_eq, if◌then◌else◌}
use Rattle.std.specs.List.{All, list_any}
use Rattle.gpu_cmd.specs.declared.name.Name.{Name}
use Rattle.sync_core.specs.declared.ending.Ending.{Ending}
use Rattle.gpu_journal.specs.declared.event.Event.{Event}
use Rattle.gpu_journal.specs.declared.end.End.{End}
use Rattle.journal_text.specs.declared.tally.Tally.{Tally}
use Rattle.journal_text.specs.Digits.{hex8, number_text}
use Rattle.journal_text.specs.Text.{event_words, event_text, journal_text, stream_text}
use Rattle.journal_text.specs.Picture.{head_text}
use Rattle.journal_text.specs.Lines.{journal_head, name_text, mark_text, dump_text, view_text}

-- every word of the event has a value of 32 bits
abbrev pub HasWords : Event → Type 0
HasWords event = All (λ word. word.1 < 2 ^ 32) (event_words event)

-- what stands before the first space
abbrev pub first_word : List ℕ → List ℕ
first_word [] = []
first_word (byte ∷ text) = if byte == 32 then [] else byte ∷ first_word text

-- the first words of the parts of the output beside the journal
abbrev pub other_words : List (List ℕ)
other_words = codes "gpu-journal" ∷ codes "name" ∷ codes "image" ∷ codes "stream" ∷ codes "mark" ∷ codes "dump" ∷ codes "view" ∷ []

-- a text is empty or begins with the first word of another part
abbrev pub begins_other_part : List ℕ → Bool
begins_other_part [] = true
begins_other_part (byte ∷ text) = list_any (bytes_eq (first_word (byte ∷ text))) other_words

-- different numbers have different decimal digits
abbrev pub DifferentNumbers : Type 0
DifferentNumbers = (m n : ℕ) → number_text m ≡ number_text n → m ≡ n

-- different values of 32 bits have different hexadecimal digits
abbrev pub DifferentValues : Type 0
DifferentValues = (v w : ℕ) → v < 2 ^ 32 → w < 2 ^ 32 → hex8 v ≡ hex8 w → v ≡ w

-- different histories have different texts
abbrev pub DifferentTexts : Type 0
DifferentTexts = (g h : List Event) → All HasWords g → All HasWords h → journal_text g ≡ journal_text h → g ≡ h

-- no line of a journal begins with the first word of another part
abbrev pub EventsAreApart : Type 0
EventsAreApart = (event : Event) (behind : List ℕ) → begins_other_part (event_text event ++ behind) ≡ false

-- the lines of the other parts begin with their words
pub record OthersBegin : Type 0 where
  pub head : (behind : List ℕ) → IsTrue (begins_other_part (journal_head ++ behind))
  pub name : (stream : ℕ) (name : Name) (behind : List ℕ) → IsTrue (begins_other_part (name_text stream name ++ behind))
  pub image : (image width height : ℕ) (behind : List ℕ) → IsTrue (begins_other_part (head_text image width height ++ behind))
  pub stream : (stream : ℕ) (tally : Tally) (ended : End) (behind : List ℕ) → IsTrue (begins_other_part (stream_text stream tally ended ++ behind))
  pub mark : (ending : Ending) (value : ℕ) (behind : List ℕ) → IsTrue (begins_other_part (mark_text ending value ++ behind))
  pub dump : (stream place index value : ℕ) (behind : List ℕ) → IsTrue (begins_other_part (dump_text stream place index value ++ behind))
  pub view : (viewer events sum : ℕ) (behind : List ℕ) → IsTrue (begins_other_part (view_text viewer events sum ++ behind))

-- a journal with the other parts after it tells the history and these parts
abbrev pub OutputTells : Type 0
OutputTells = (g h : List Event) (x y : List ℕ) → All HasWords g → All HasWords h → IsTrue (begins_other_part x) → IsTrue (begins_other_part y)
    → journal_text g ++ x ≡ journal_text h ++ y → (g ≡ h) × (x ≡ y)
