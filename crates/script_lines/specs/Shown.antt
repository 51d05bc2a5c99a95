-- What functions return for put and fill lines, as the definitions of these lines see it.
use Rattle.std.specs.Prelude.{ℕ, List, length, map, Option, Some, None, if◌then◌else◌}
use Rattle.std.specs.List.{list_all}
use Rattle.script_lines.specs.Numbers.{is_value, value_of}
use Rattle.script_lines.specs.Left.{words_left, values_left}
use Rattle.script_lines.specs.declared.reading.Values.{Values}
use Rattle.script_lines.specs.declared.line.Putting.{Putting}

-- a place, and the words for the values
abbrev pub begun_shown : ℕ × Values → ℕ × List (List ℕ)
begun_shown begun = (begun.0, values_left begun.1)

-- a memory, a place, and the words for the values
abbrev pub fill_begun_shown : ℕ × ℕ × Values → ℕ × ℕ × List (List ℕ)
fill_begun_shown begun = (begun.0, begun.1, values_left begun.2)

-- a place, and the values
abbrev pub put_shown : Putting → ℕ × List ℕ
put_shown said = (said.place, map value_of (words_left said.values))

-- a memory, a place, and the values
abbrev pub fill_shown : ℕ × Putting → ℕ × ℕ × List ℕ
fill_shown said = (said.0, said.1.place, map value_of (words_left said.1.values))

-- how many words there are, where each of them is a value
abbrev pub values_counted : List (List ℕ) → Option ℕ
values_counted words = if list_all is_value words then Some (length words) else None
