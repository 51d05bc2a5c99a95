-- The names that the flush lines of a script mention, in the order in which they are first mentioned.
use Rattle.std.specs.Prelude.{ℕ, List, [], ◌∷◌, if◌then◌else◌, Option, Some}
use Rattle.gpu_cmd.specs.declared.name.Name.{Name}
use Rattle.script_lines.specs.declared.keyword.Keyword.{Keyword}
use Rattle.script_lines.specs.declared.keyword.Keyword.TheVariants.{FlushLine}
use Rattle.script_lines.specs.Said.{keyword_of}
use Rattle.script_lines.specs.Mentioned.{mentioned_behind}
use Rattle.gpu_plan.specs.Script.{is_remark}

-- the names with those that a line mentions, by what its first word names
abbrev pub mentioned_as : ℕ → List Name → Option Keyword → List (List ℕ) → List Name
mentioned_as version names (Some FlushLine) words = mentioned_behind version names words
mentioned_as version names keyword words = names

-- the names with those that a line mentions
unfoldable pub mentioned_on : ℕ → List Name → List (List ℕ) → List Name
mentioned_on version names [] = names
mentioned_on version names (name ∷ words) = if is_remark name then names else mentioned_as version names (keyword_of name) words

-- the names with those that lines mention
unfoldable pub mentioned_in : ℕ → List Name → List (List (List ℕ)) → List Name
mentioned_in version names [] = names
mentioned_in version names (line ∷ lines) = mentioned_in version (mentioned_on version names line) lines
