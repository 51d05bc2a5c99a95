-- The names that the fences of flush lines mention.
use Rattle.std.specs.Prelude.{ℕ, ◌==◌, List, [], ◌∷◌, if◌then◌else◌, Result, Ok, Err}
use Rattle.gpu_cmd.specs.declared.name.Name.{Name}
use Rattle.script_lines.specs.Names.{with_name}
use Rattle.script_lines.specs.Numbers.{decimal_of, long_decimal_of}
use Rattle.script_lines.specs.declared.fault.Kind.{Kind}
use Rattle.script_lines.specs.declared.fault.Kind.TheVariants.{Number}
use Rattle.script_lines.specs.Outcome.{◌>>=◌, or_error}

-- the name and the release that three words say
unfoldable pub fence_said : List ℕ → List ℕ → List ℕ → Result (Name × ℕ) Kind
fence_said n i r = do
  namespace ← or_error Number (decimal_of n)
  id ← or_error Number (long_decimal_of i)
  release ← or_error Number (long_decimal_of r)
  Ok (record { namespace = namespace; id = id }, release)

-- the names with the one that a fence mentions, where it mentions one
abbrev pub with_fence : List Name → Result (Name × ℕ) Kind → List Name
with_fence names (Ok said) = with_name names said.0
with_fence names (Err kind) = names

-- the names with those that triples of words mention, each once
unfoldable pub mentioned_by : List Name → List (List ℕ) → List Name
mentioned_by names [] = names
mentioned_by names (n ∷ []) = names
mentioned_by names (n ∷ i ∷ []) = names
mentioned_by names (n ∷ i ∷ r ∷ words) = mentioned_by (with_fence names (fence_said n i r)) words

-- the names with those that fences mention, in version 2 alone
abbrev pub mentioned_of : ℕ → List Name → List (List ℕ) → List Name
mentioned_of version names words = if version == 2 then mentioned_by names words else names

-- the names with those that the words after `flush` mention: a put and fences
unfoldable pub mentioned_behind : ℕ → List Name → List (List ℕ) → List Name
mentioned_behind version names [] = names
mentioned_behind version names (p ∷ words) = mentioned_of version names words
