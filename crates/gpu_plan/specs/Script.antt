-- The meaning of a script, on the words of its lines.
use Rattle.std.specs.Prelude.{ℕ, ◌+◌, Bool, true, ◌==◌, List, [], ◌∷◌, map, if◌then◌else◌, Option, Some, None, Result, Ok, Err, codes, bytes_eq, slice_index}
use Rattle.script_lines.specs.Text.{lines_of, words_of}
use Rattle.script_lines.specs.declared.fault.Kind.{Kind}
use Rattle.script_lines.specs.declared.fault.Kind.TheVariants.{Head}
use Rattle.script_lines.specs.Outcome.{◌>>=◌, at_line}
use Rattle.gpu_plan.specs.Plans.{PlansData}
use Rattle.gpu_cmd.specs.declared.name.Name.{Name}
use Rattle.script_lines.specs.Naming.{fence_names}
use Rattle.gpu_plan.specs.Adding.{Draft, no_stream, streams, with_line}

-- a word that begins with '#'
abbrev pub is_remark : List ℕ → Bool
is_remark word = slice_index word 0 == 35

-- the version that a word names
abbrev pub version_named : List ℕ → Option ℕ
version_named word = if bytes_eq word (codes "1") then Some 1 else (if bytes_eq word (codes "2") then Some 2 else None)

-- the version that the two words of a head line say
abbrev pub version_of : List (List ℕ) → Option ℕ
version_of (name ∷ version ∷ []) = if bytes_eq name (codes "gpu-script") then version_named version else None
version_of _ = None

-- no word, or a first word that begins with '#'
abbrev pub is_skipped : List (List ℕ) → Bool
is_skipped [] = true
is_skipped (name ∷ words) = is_remark name

-- what the line of this number does to the draft
unfoldable pub numbered : ℕ → List Name → ℕ → List (List ℕ) → Draft → Result Draft (ℕ × Kind)
numbered version names n [] d = Ok d
numbered version names n (name ∷ words) d = if is_remark name then Ok d else at_line n (with_line version names name words d)

-- the plans of a draft
abbrev pub plans_of : ℕ → Draft → PlansData
plans_of version d = record { version = version; plans = streams d }

-- the lines after the head line, the first of which has this number, are taken up one by one
unfoldable pub from_body : ℕ → List Name → ℕ → Draft → List (List (List ℕ)) → Result PlansData (ℕ × Kind)
from_body version names n d [] = Ok (plans_of version d)
from_body version names n d (line ∷ lines) = do
  next ← numbered version names n line d
  from_body version names (n + 1) next lines

-- the lines after a line of this number, which says this version or is no head line
unfoldable pub from_version : Option ℕ → ℕ → List (List (List ℕ)) → Result PlansData (ℕ × Kind)
from_version None n lines = Err (n, Head)
from_version (Some version) n lines = from_body version (fence_names version lines) (n + 1) no_stream lines

-- the first line that is not skipped is the head line
unfoldable pub from_head : ℕ → List (List (List ℕ)) → Result PlansData (ℕ × Kind)
from_head n [] = Err (n, Head)
from_head n (line ∷ lines) = if is_skipped line then from_head (n + 1) lines else from_version (version_of line) n lines

-- the plans that a text says, or its first bad line with its first kind
unfoldable pub script_of : List ℕ → Result PlansData (ℕ × Kind)
script_of text = from_head 1 (map words_of (lines_of text))
