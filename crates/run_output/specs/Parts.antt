-- The lines of the output after its marks, and the room that the line of an event has.
use Rattle.std.specs.Prelude.{ℕ, ◌+◌, ◌<◌, ◌≤◌, List, [], ◌∷◌, length, Vec}
use Rattle.std.specs.List.{All, flat_map}
use Rattle.std.specs.declared.alloc.Global.{Global}
use Rattle.gpu_journal.specs.declared.event.Event.{Event}
use Rattle.journal_text.specs.Text.{event_words}
use Rattle.journal_text.specs.Lines.{dump_text, view_text}
use Rattle.journal_text.specs.declared.sheet.TheConstants.{MOST_EVENT_WORDS}
use Rattle.live_view.specs.declared.look.Look.{Look}

-- the words of an event are so few, and at places so low, that its line has room
pub record LineHasRoom (e : Event) : Type 0 where
  pub few : length (event_words e) ≤ MOST_EVENT_WORDS
  pub near : All (λ word. word.0 < MOST_EVENT_WORDS) (event_words e)

-- the line of a dump that the client of stream s has read: action place, result place and value
abbrev pub dump_read_text : ℕ → ℕ × ℕ × ℕ → List ℕ
dump_read_text s found = dump_text s found.0 found.1 found.2

-- the lines of the dumps that the client of each stream has read, counted from stream s on
abbrev pub dump_texts : ℕ → List (List (ℕ × ℕ × ℕ)) → List (List ℕ)
dump_texts s [] = []
dump_texts s (dumps ∷ more) = flat_map (dump_read_text s) dumps ∷ dump_texts (s + 1) more

-- the line of a look of a viewer: its number of events, and its sum
abbrev pub look_text : ℕ → Look → List ℕ
look_text viewer look = view_text viewer look.events look.sum

-- the lines of the looks of each viewer, counted from viewer v on
abbrev pub view_texts : ℕ → List (Vec Look Global) → List (List ℕ)
view_texts v [] = []
view_texts v (looks ∷ more) = flat_map (look_text v) looks.items ∷ view_texts (v + 1) more
