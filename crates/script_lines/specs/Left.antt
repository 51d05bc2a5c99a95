-- What readers of a line have left of it.
use Rattle.std.specs.Prelude.{ℕ, List}
use Rattle.script_lines.specs.Text.{words_of}
use Rattle.script_lines.specs.declared.text.Words.{Words}
use Rattle.script_lines.specs.declared.reading.Values.{Values}

-- the words that are left
abbrev pub words_left : Words → List (List ℕ)
words_left words = words_of words.rest.now

-- the words that are left, to be read as values
abbrev pub values_left : Values → List (List ℕ)
values_left values = words_of values.rest.now
