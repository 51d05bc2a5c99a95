-- What a journal keeps.
use Rattle.std.specs.Prelude.{ℕ, List, []}
use Rattle.gpu_journal.specs.declared.event.Event.{Event}
use Rattle.gpu_journal.specs.declared.event.Event.TheVariants.{Order, Step, Finish, Lost, Close}

-- the events so far, the newest first, and how many more events and words there is room for
pub record Past : Type 0 where
  pub events : List Event
  pub spare : ℕ
  pub room : ℕ

-- the words that an event carries
abbrev pub event_words : Event → List (ℕ × ℕ)
event_words (Order stream order place) = []
event_words (Step stream words) = words
event_words (Finish stream order) = []
event_words (Lost stream why words) = words
event_words (Close stream) = []
