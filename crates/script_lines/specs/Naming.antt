-- The names that the stream lines of a script say, whether or not the script is lawful.
use Rattle.std.specs.Prelude.{ℕ, ◌==◌, List, [], ◌∷◌, if◌then◌else◌, Result, Ok, Err, codes, bytes_eq}
use Rattle.gpu_cmd.specs.declared.name.Name.{Name}
use Rattle.script_lines.specs.Names.{with_name}
use Rattle.script_lines.specs.declared.fault.Kind.{Kind}
use Rattle.gpu_cmd.specs.declared.priority.Priority.{Priority}
use Rattle.script_lines.specs.Said.{named_said}

-- the names with the one that a stream line says, where it says one
abbrev pub names_with : List Name → Result (Name × Priority × ℕ) Kind → List Name
names_with names (Ok said) = with_name names said.0
names_with names (Err kind) = names

-- the names with the one that a line says, where it is a stream line
unfoldable pub named_on : List Name → List (List ℕ) → List Name
named_on names [] = names
named_on names (word ∷ words) = if bytes_eq word (codes "stream") then names_with names (named_said words) else names

-- the names with those that lines say, each once, in the order of the lines
unfoldable pub named_in : List Name → List (List (List ℕ)) → List Name
named_in names [] = names
named_in names (line ∷ lines) = named_in (named_on names line) lines

-- the names that fences may speak of: in version 2 those of all stream lines, whether they stand before or after
abbrev pub fence_names : ℕ → List (List (List ℕ)) → List Name
fence_names version lines = if version == 2 then named_in [] lines else []
