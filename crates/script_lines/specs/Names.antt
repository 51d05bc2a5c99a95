-- Names of streams, and their numbers.
use Rattle.std.specs.Prelude.{ℕ, suc, Bool, ◌==◌, ◌&&◌, List, [], ◌∷◌, ◌++◌, if◌then◌else◌, position}
use Rattle.std.specs.List.{list_any}
use Rattle.std.specs.Option.{option_map_or}
use Rattle.gpu_cmd.specs.declared.name.Name.{Name}

-- the same namespace and the same id
abbrev pub is_name : Name → Name → Bool
is_name a b = a.namespace == b.namespace && a.id == b.id

-- the names with one more after them, unless it is among them
abbrev pub with_name : List Name → Name → List Name
with_name names name = if list_any (is_name name) names then names else names ++ name ∷ []

-- the number of a name, counted from 1 in the order of the names, or 0 where it is not among them
abbrev pub number_in : List Name → Name → ℕ
number_in names name = option_map_or suc (position (is_name name) names) 0
