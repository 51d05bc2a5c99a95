-- The texts of events and of streams.
use Rattle.std.specs.Prelude.{ℕ, List, ◌++◌, codes}
use Rattle.std.specs.List.{flat_map}
use Rattle.gpu_cmd.specs.Errors.{code_of}
use Rattle.stream_state.specs.State.{State}
pub use Rattle.gpu_journal.specs.Past.{event_words}
use Rattle.gpu_journal.specs.declared.event.Event.{Event}
use Rattle.gpu_journal.specs.declared.event.Event.TheVariants.{Order, Step, Finish, Lost, Close}
use Rattle.gpu_journal.specs.declared.event.Why.{Why}
use Rattle.gpu_journal.specs.declared.event.Why.TheVariants.{Error, Memory}
use Rattle.gpu_journal.specs.declared.end.End as ends
use Rattle.gpu_journal.specs.declared.end.End.TheVariants as end
use Rattle.journal_text.specs.Digits.{hex8, number_text}
use Rattle.journal_text.specs.declared.tally.Tally.{Tally}

-- a word that was fetched: its place and its value
abbrev pub word_text : ℕ × ℕ → List ℕ
word_text word = number_text word.0 ++ codes ":" ++ hex8 word.1

-- the number of an error, or `memory`
abbrev pub why_text : Why → List ℕ
why_text (Error error) = number_text (code_of error)
why_text Memory = codes " memory"

-- the line of an event
unfoldable pub event_text : Event → List ℕ
event_text (Order stream order place) = codes "order" ++ number_text stream ++ number_text order ++ number_text place ++ codes "\n"
event_text (Step stream words) = codes "step" ++ number_text stream ++ flat_map word_text words ++ codes "\n"
event_text (Finish stream order) = codes "finish" ++ number_text stream ++ number_text order ++ codes "\n"
event_text (Lost stream why words) = codes "lost" ++ number_text stream ++ why_text why ++ flat_map word_text words ++ codes "\n"
event_text (Close stream) = codes "close" ++ number_text stream ++ codes "\n"

-- the lines of some events, in their order
unfoldable pub journal_text : List Event → List ℕ
journal_text events = flat_map event_text events

-- how a stream ended
abbrev pub end_text : ends.End → List ℕ
end_text end.Done = codes " done"
end_text (end.Lost why) = codes " lost" ++ why_text why
end_text end.Closed = codes " closed"

-- what the state of a stream says that it counted
abbrev pub tally_of : State → Tally
tally_of state = record {
  entries = state.entries;
  release = state.release;
  token = state.token;
  words = state.fetched;
  errors = record { 0 = state.errors.invalid_value; 1 = state.errors.invalid_operation; 2 = state.errors.out_of_texels };
}

-- how many errors of each kind there were
abbrev pub errors_text : ℕ × ℕ × ℕ → List ℕ
errors_text errors = codes " errors" ++ number_text errors.0 ++ number_text errors.1 ++ number_text errors.2

-- what a stream counted
abbrev pub tally_text : Tally → List ℕ
tally_text tally =
    codes " entries" ++ number_text tally.entries
    ++ codes " release" ++ number_text tally.release
    ++ codes " token" ++ number_text tally.token
    ++ codes " words" ++ number_text tally.words
    ++ errors_text tally.errors

-- the line of a stream: how it ended, and what it counted
unfoldable pub stream_text : ℕ → Tally → ends.End → List ℕ
stream_text stream tally ended = codes "stream" ++ number_text stream ++ end_text ended ++ tally_text tally ++ codes "\n"
