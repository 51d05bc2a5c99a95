-- The parts of an input: a script, a line `journal`, and a journal text, after which the rest of an output may stand.
use Rattle.std.specs.Prelude.{ℕ, Bool, not, false, List, [], ◌∷◌, filter, Option, Some, None, codes, bytes_eq, if◌then◌else◌}
use Rattle.std.specs.List.{list_any}
use Rattle.script_lines.specs.Text.{ends_line, words_of}
use Rattle.verify_input.specs.Reading.{whole_lines}
use Rattle.verify_input.specs.declared.border.Border.{Border}
use Rattle.verify_input.specs.declared.border.Border.TheVariants.{Script, Journal}

-- the words of a line without its line feed
abbrev pub words_on : List ℕ → List (List ℕ)
words_on line = words_of (filter (λ byte. not (ends_line byte)) line)

-- the only word is `journal`
abbrev pub is_journal : List (List ℕ) → Bool
is_journal (word ∷ []) = bytes_eq word (codes "journal")
is_journal _ = false

-- the first words of what stands after a journal in an output
abbrev pub part_words : List (List ℕ)
part_words = codes "image" ∷ codes "stream" ∷ codes "mark" ∷ codes "dump" ∷ codes "view" ∷ []

-- the first word is one of these
abbrev pub begins_part : List (List ℕ) → Bool
begins_part [] = false
begins_part (word ∷ words) = list_any (bytes_eq word) part_words

-- a line with these words ends the script, or the journal text
abbrev pub is_end : Border → List (List ℕ) → Bool
is_end Script words = is_journal words
is_end Journal words = begins_part words

-- the lines before the first that ends this part, or all
abbrev pub before : Border → List (List ℕ) → List (List ℕ)
before border [] = []
before border (line ∷ lines) = if is_end border (words_on line) then [] else line ∷ before border lines

-- the lines after the one that ends this part, if there is one
abbrev pub behind : Border → List (List ℕ) → Option (List (List ℕ))
behind border [] = None
behind border (line ∷ lines) = if is_end border (words_on line) then Some lines else behind border lines

-- the lines of the script: all before the line `journal`
abbrev pub script_part : List ℕ → List (List ℕ)
script_part input = before Script (whole_lines input)

-- the lines of the journal text, up to the first of another part, where it is there
abbrev pub journal_from : Option (List (List ℕ)) → Option (List (List ℕ))
journal_from None = None
journal_from (Some lines) = Some (before Journal lines)

-- the lines of the journal text, which is there where a line `journal` is
abbrev pub journal_part : List ℕ → Option (List (List ℕ))
journal_part input = journal_from (behind Script (whole_lines input))
