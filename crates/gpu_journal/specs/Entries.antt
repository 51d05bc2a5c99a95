-- How a journal keeps its events: the words of all events lie in one list.
use Rattle.std.specs.Prelude.{ℕ, ◌≤◌, List, length, map, slice_range}
use Rattle.gpu_journal.specs.declared.entry.Entry.{Entry}
use Rattle.gpu_journal.specs.declared.entry.Entry.TheVariants as entry
use Rattle.gpu_journal.specs.declared.event.Event.{Event}
use Rattle.gpu_journal.specs.declared.event.Event.TheVariants.{Order, Step, Finish, Lost, Close}

-- the event of an entry, where the words lie in this list
abbrev pub event_of : List (ℕ × ℕ) → Entry → Event
event_of words (entry.Order stream order place) = Order stream order place
event_of words (entry.Step stream from end) = Step stream (slice_range words from end)
event_of words (entry.Finish stream order) = Finish stream order
event_of words (entry.Lost stream why from end) = Lost stream why (slice_range words from end)
event_of words (entry.Close stream) = Close stream

-- the events of some entries, in their order
abbrev pub events_of : List (ℕ × ℕ) → List Entry → List Event
events_of words entries = map (event_of words) entries

-- the words of an entry lie in the list
abbrev pub LiesInWords : List (ℕ × ℕ) → Entry → Type 0
LiesInWords words (entry.Order stream order place) = Unit {0}
LiesInWords words (entry.Step stream from end) = (from ≤ end) × (end ≤ length words)
LiesInWords words (entry.Finish stream order) = Unit {0}
LiesInWords words (entry.Lost stream why from end) = (from ≤ end) × (end ≤ length words)
LiesInWords words (entry.Close stream) = Unit {0}
