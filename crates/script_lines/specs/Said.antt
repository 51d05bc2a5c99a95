-- What the words of a line say.
use Rattle.std.specs.Prelude.{ℕ, Bool, ◌==◌, true, false, List, [], ◌∷◌, map, if◌then◌else◌, Option, Some, None, Result, Ok, Err, codes, bytes_eq}
use Rattle.std.specs.List.{list_all}
use Rattle.script_lines.specs.Numbers.{decimal_of, long_decimal_of, is_value, value_of}
use Rattle.script_lines.specs.declared.fault.Kind.{Kind}
use Rattle.script_lines.specs.declared.fault.Kind.TheVariants.{Word, Number}
use Rattle.gpu_cmd.specs.declared.priority.Priority.{Priority}
use Rattle.gpu_cmd.specs.declared.priority.Priority.TheVariants.{High, Normal, Low}
use Rattle.script_lines.specs.declared.keyword.Keyword.{Keyword}
use Rattle.script_lines.specs.declared.keyword.Keyword.TheVariants.{StreamLine, MemoryLine, ResultsLine, PutLine, FillLine, FlushLine, FinishLine, TokenLine, CloseLine, DumpLine}
use Rattle.gpu_cmd.specs.declared.name.Name.{Name}
use Rattle.script_lines.specs.Names.{number_in}
use Rattle.script_lines.specs.Outcome.{◌>>=◌, or_error, unless}

-- what a line's first word names
abbrev pub keyword_of : List ℕ → Option Keyword
keyword_of word =
    if bytes_eq word (codes "stream") then Some StreamLine else (if bytes_eq word (codes "memory") then Some MemoryLine else (if bytes_eq word (codes "results") then Some ResultsLine else (if bytes_eq word (codes "put") then Some PutLine else (if bytes_eq word (codes "fill") then Some FillLine else (if bytes_eq word (codes "flush") then Some FlushLine else (if bytes_eq word (codes "finish") then Some FinishLine else (if bytes_eq word (codes "token") then Some TokenLine else (if bytes_eq word (codes "close") then Some CloseLine else (if bytes_eq word (codes "dump") then Some DumpLine else None)))))))))

-- the priority that a word names
abbrev pub priority_of : List ℕ → Option Priority
priority_of word = if bytes_eq word (codes "high") then Some High else (if bytes_eq word (codes "normal") then Some Normal else (if bytes_eq word (codes "low") then Some Low else None))

-- after `finish` and `close`: nothing
unfoldable pub none_said : List (List ℕ) → Result (Unit {0}) Kind
none_said [] = Ok tt
none_said _ = Err Word

-- after `token`: one number
unfoldable pub one_said : List (List ℕ) → Result ℕ Kind
one_said (n ∷ []) = or_error Number (decimal_of n)
one_said _ = Err Word

-- after `memory`, `results` and `dump`: two numbers
unfoldable pub two_said : List (List ℕ) → Result (ℕ × ℕ) Kind
two_said (m ∷ n ∷ []) = do
  first ← or_error Number (decimal_of m)
  second ← or_error Number (decimal_of n)
  Ok (first, second)
two_said _ = Err Word

-- after `stream` in version 1: the stream's number, a priority and the ring's length; stream S has the name (0, S)
unfoldable pub numbered_said : List (List ℕ) → Result (Name × Priority × ℕ) Kind
numbered_said (s ∷ p ∷ r ∷ []) = do
  priority ← or_error Word (priority_of p)
  stream ← or_error Number (decimal_of s)
  ring ← or_error Number (decimal_of r)
  Ok (record { namespace = 0; id = stream }, priority, ring)
numbered_said _ = Err Word

-- after `stream` in version 2: the two parts of a name, a priority and the ring's length
unfoldable pub named_said : List (List ℕ) → Result (Name × Priority × ℕ) Kind
named_said (n ∷ i ∷ p ∷ r ∷ []) = do
  priority ← or_error Word (priority_of p)
  namespace ← or_error Number (decimal_of n)
  id ← or_error Number (long_decimal_of i)
  ring ← or_error Number (decimal_of r)
  Ok (record { namespace = namespace; id = id }, priority, ring)
named_said _ = Err Word

-- after `stream`, by the version: the stream's name, its priority and its ring's length
abbrev pub stream_said : ℕ → List (List ℕ) → Result (Name × Priority × ℕ) Kind
stream_said version words = if version == 2 then named_said words else numbered_said words

-- after `put`: a place and one or more values
unfoldable pub put_said : List (List ℕ) → Result (ℕ × List ℕ) Kind
put_said (p ∷ v ∷ vs) = do
  place ← or_error Number (decimal_of p)
  _ ← unless (list_all is_value (v ∷ vs)) Number
  Ok (place, map value_of (v ∷ vs))
put_said _ = Err Word

-- after `fill`: a memory, and then as after `put`
unfoldable pub fill_said : List (List ℕ) → Result (ℕ × ℕ × List ℕ) Kind
fill_said (m ∷ p ∷ v ∷ vs) = do
  memory ← or_error Number (decimal_of m)
  said ← put_said (p ∷ v ∷ vs)
  Ok (memory, said.0, said.1)
fill_said _ = Err Word

-- after `put`, but for what the values are: a place, and one or more words
unfoldable pub put_begun : List (List ℕ) → Result (ℕ × List (List ℕ)) Kind
put_begun (p ∷ v ∷ vs) = do
  place ← or_error Number (decimal_of p)
  Ok (place, v ∷ vs)
put_begun _ = Err Word

-- after `fill`, but for what the values are: a memory, and then as after `put`
unfoldable pub fill_begun : List (List ℕ) → Result (ℕ × ℕ × List (List ℕ)) Kind
fill_begun (m ∷ p ∷ v ∷ vs) = do
  memory ← or_error Number (decimal_of m)
  begun ← put_begun (p ∷ v ∷ vs)
  Ok (memory, begun.0, begun.1)
fill_begun _ = Err Word

-- an even number of words
abbrev pub are_pairs : List (List ℕ) → Bool
are_pairs [] = true
are_pairs (t ∷ []) = false
are_pairs (t ∷ r ∷ words) = are_pairs words

-- the streams and releases that pairs of words say
unfoldable pub pairs_of : List (List ℕ) → Result (List (ℕ × ℕ)) Kind
pairs_of [] = Ok []
pairs_of (t ∷ []) = Err Word
pairs_of (t ∷ r ∷ words) = do
  target ← or_error Number (decimal_of t)
  release ← or_error Number (long_decimal_of r)
  pairs ← pairs_of words
  Ok ((target, release) ∷ pairs)

-- a number of words that three divides
abbrev pub are_triples : List (List ℕ) → Bool
are_triples [] = true
are_triples (n ∷ []) = false
are_triples (n ∷ i ∷ []) = false
are_triples (n ∷ i ∷ r ∷ words) = are_triples words

-- the fence that three words say: the number of the stream whose name the first two are, and a release
unfoldable pub named_fence : List Name → List ℕ → List ℕ → List ℕ → Result (ℕ × ℕ) Kind
named_fence names n i r = do
  namespace ← or_error Number (decimal_of n)
  id ← or_error Number (long_decimal_of i)
  release ← or_error Number (long_decimal_of r)
  Ok (number_in names (record { namespace = namespace; id = id }), release)

-- the fences that triples of words say
unfoldable pub triples_of : List Name → List (List ℕ) → Result (List (ℕ × ℕ)) Kind
triples_of names [] = Ok []
triples_of names (n ∷ []) = Err Word
triples_of names (n ∷ i ∷ []) = Err Word
triples_of names (n ∷ i ∷ r ∷ words) = do
  fence ← named_fence names n i r
  fences ← triples_of names words
  Ok (fence ∷ fences)

-- whether words make up fences: pairs in version 1, and triples in version 2
abbrev pub are_fences : ℕ → List (List ℕ) → Bool
are_fences version words = if version == 2 then are_triples words else are_pairs words

-- the fences that words say in a version, where these are the names of the streams
abbrev pub fences_of : ℕ → List Name → List (List ℕ) → Result (List (ℕ × ℕ)) Kind
fences_of version names words = if version == 2 then triples_of names words else pairs_of words

-- after `flush`: a put and fences
unfoldable pub flush_said : ℕ → List Name → List (List ℕ) → Result (ℕ × List (ℕ × ℕ)) Kind
flush_said version names [] = Err Word
flush_said version names (p ∷ words) = do
  _ ← unless (are_fences version words) Word
  put ← or_error Number (decimal_of p)
  fences ← fences_of version names words
  Ok (put, fences)
