-- What a line adds to the streams before it.
use Rattle.std.specs.Prelude.{ℕ, ◌+◌, Bool, true, false, not, is_none, ◌&&◌, ◌||◌, ◌==◌, nat_le, nat_lt, List, [], ◌∷◌, ◌++◌, length, set, Option, Some, None, option_to_list, Result, Ok}
use Rattle.std.specs.List.{list_any}
use Rattle.gpu_cmd.specs.declared.areas.Areas.{Areas}
use Rattle.gpu_cmd.specs.declared.areas.Span.{Span}
use Rattle.gpu_cmd.specs.Spans.{span_at, words_in}
use Rattle.gpu_cmd.specs.declared.name.Name.{Name}
use Rattle.script_lines.specs.declared.fault.Kind.{Kind}
use Rattle.script_lines.specs.declared.fault.Kind.TheVariants.{Word, Order, Double, Place, Limit}
use Rattle.gpu_plan.specs.declared.acting.TheConstants.{MOST_ACTIONS, MOST_FLUSHES, MOST_FENCES}
use Rattle.gpu_plan.specs.declared.plan.Action.{Action}
use Rattle.gpu_plan.specs.declared.plan.Action.TheVariants.{Put, Flush, Finish, Token, Close}
use Rattle.gpu_cmd.specs.declared.priority.Priority.{Priority}
use Rattle.gpu_cmd.specs.declared.areas.TheConstants.{LEAST_RING, MOST_RING, MOST_WORDS}
use Rattle.script_lines.specs.declared.keyword.Keyword.{Keyword}
use Rattle.script_lines.specs.declared.keyword.Keyword.TheVariants.{StreamLine, MemoryLine, ResultsLine, PutLine, FillLine, FlushLine, FinishLine, TokenLine, CloseLine, DumpLine}
use Rattle.script_lines.specs.Outcome.{◌>>=◌, or_error, unless}
use Rattle.gpu_plan.specs.Plans.{PlanData, is_closed, is_of, ring_alone}
use Rattle.gpu_plan.specs.declared.adding.TheConstants.{MOST_STREAMS, LAST_NAMESPACE}
use Rattle.gpu_plan.specs.declared.spans.TheConstants.{LAST_MEMORY}
use Rattle.script_lines.specs.Said.{keyword_of, none_said, one_said, two_said, stream_said, put_said, fill_said, flush_said}

-- the streams before, the stream begun last, and how many actions and flushes the script has so far
pub record Draft : Type 0 where
  pub done : List PlanData
  pub last : Option PlanData
  pub actions : ℕ
  pub flushes : ℕ

-- a script of which the head line alone was read
abbrev pub no_stream : Draft
no_stream = record { done = []; last = None; actions = 0; flushes = 0 }

-- all streams of a draft
abbrev pub streams : Draft → List PlanData
streams d = d.done ++ option_to_list d.last

-- the stream begun last, where it may still act
unfoldable pub acting : Draft → Result PlanData Kind
acting d = do
  last ← or_error Order d.last
  _ ← unless (not (is_closed last.actions)) Order
  Ok last

-- the stream begun last, where it has not acted yet
unfoldable pub fresh : Draft → Result PlanData Kind
fresh d = do
  last ← or_error Order d.last
  _ ← unless (length last.actions == 0) Order
  Ok last

-- the draft with some actions added to the stream begun last, whose plan this is
unfoldable pub added : List Action → PlanData → Draft → Result Draft Kind
added actions plan d = do
  _ ← unless (nat_le (d.actions + length actions) MOST_ACTIONS) Limit
  Ok (record d { last = Some (record plan { actions = plan.actions ++ actions }); actions = d.actions + length actions })

-- values at places that follow one another
abbrev pub puts : ℕ → List ℕ → List Action
puts place [] = []
puts place (value ∷ values) = Put place value ∷ puts (place + 1) values

-- the draft with some actions added to the stream begun last, where it may still act
unfoldable pub with_actions : List Action → Draft → Result Draft Kind
with_actions actions d = do
  last ← acting d
  added actions last d

-- the draft with a flush
unfoldable pub flushed : ℕ → List (ℕ × ℕ) → Draft → Result Draft Kind
flushed put fences d = do
  last ← acting d
  _ ← unless (nat_le (d.flushes + 1) MOST_FLUSHES && nat_le (length fences) MOST_FENCES) Limit
  added (Flush put fences ∷ []) last (record d { flushes = d.flushes + 1 })

-- the draft with a Finish, after which a word of a result memory is read
unfoldable pub dumped : ℕ → ℕ → Draft → Result Draft Kind
dumped memory index d = do
  last ← acting d
  span ← or_error Place (span_at last.areas.results memory)
  _ ← unless (nat_lt index span.words) Place
  added (Finish ∷ []) (record last { dumps = last.dumps ++ (length last.actions, span.base + index) ∷ [] }) d

-- the ring, or the transfer memory of a number, as a span of places
abbrev pub area_of : Areas → Option ℕ → Option Span
area_of areas None = Some (record { base = 0; words = areas.ring })
area_of areas (Some memory) = span_at areas.memories memory

-- the draft with values put into the ring or a transfer memory, from a place of it on
unfoldable pub put_into : Option ℕ → ℕ → List ℕ → Draft → Result Draft Kind
put_into memory place values d = do
  last ← acting d
  span ← or_error Place (area_of last.areas memory)
  _ ← unless (nat_le (place + length values) span.words) Place
  added (puts (span.base + place) values) last d

-- memories that count from a first place on, with one more of a given number of words after those before
unfoldable pub spans_with : ℕ → List (Option Span) → ℕ → ℕ → Result (List (Option Span)) Kind
spans_with first spans memory words = do
  _ ← unless (is_none (span_at spans memory)) Double
  _ ← unless (nat_le memory LAST_MEMORY && nat_le 1 words && nat_le (words_in spans + words) MOST_WORDS) Limit
  Ok (set spans memory (Some (record { base = first + words_in spans; words = words })))

-- whether a stream of this name may follow these streams, with a ring of this length; in version 1 its id is its number
unfoldable pub may_follow : ℕ → List PlanData → Name → ℕ → Result (Unit {0}) Kind
may_follow version before name ring = do
  _ ← unless (version == 2 || name.id == length before + 1) Order
  _ ← unless (not (list_any (is_of name) before)) Double
  unless (nat_le LEAST_RING ring && nat_le ring MOST_RING && nat_le name.namespace LAST_NAMESPACE && nat_lt (length before) MOST_STREAMS) Limit

-- a stream that has a ring and no memory, and has not acted
abbrev pub fresh_plan : Name → Priority → ℕ → PlanData
fresh_plan name priority ring = record { name = name; areas = ring_alone ring; priority = priority; actions = []; dumps = [] }

-- a stream line begins the next stream
unfoldable pub with_stream : ℕ → List (List ℕ) → Draft → Result Draft Kind
with_stream version words d = do
  said ← stream_said version words
  _ ← may_follow version (streams d) said.0 said.2
  Ok (record d { done = streams d; last = Some (fresh_plan said.0 said.1 said.2) })

-- a memory line declares a transfer memory, whose places follow those of the ring and of the memories before
unfoldable pub with_memory : List (List ℕ) → Draft → Result Draft Kind
with_memory words d = do
  said ← two_said words
  last ← fresh d
  memories ← spans_with last.areas.ring last.areas.memories said.0 said.1
  Ok (record d { last = Some (record last { areas = record last.areas { memories = memories } }) })

-- a results line declares a result memory, whose places follow those of the result memories before
unfoldable pub with_results : List (List ℕ) → Draft → Result Draft Kind
with_results words d = do
  said ← two_said words
  last ← fresh d
  results ← spans_with 0 last.areas.results said.0 said.1
  Ok (record d { last = Some (record last { areas = record last.areas { results = results } }) })

-- a put line puts its values into the ring
unfoldable pub with_puts : List (List ℕ) → Draft → Result Draft Kind
with_puts words d = do
  said ← put_said words
  last ← acting d
  _ ← unless (nat_le (said.0 + length said.1) last.areas.ring) Place
  added (puts said.0 said.1) last d

-- a fill line puts its values into a transfer memory
unfoldable pub with_fill : List (List ℕ) → Draft → Result Draft Kind
with_fill words d = do
  said ← fill_said words
  last ← acting d
  span ← or_error Place (span_at last.areas.memories said.0)
  _ ← unless (nat_le (said.1 + length said.2) span.words) Place
  added (puts (span.base + said.1) said.2) last d

-- a flush line adds one flush
unfoldable pub with_flush : ℕ → List Name → List (List ℕ) → Draft → Result Draft Kind
with_flush version names words d = do
  said ← flush_said version names words
  last ← acting d
  _ ← unless (nat_le (d.flushes + 1) MOST_FLUSHES && nat_le (length said.1) MOST_FENCES) Limit
  added (Flush said.0 said.1 ∷ []) last (record d { flushes = d.flushes + 1 })

unfoldable pub with_finish : List (List ℕ) → Draft → Result Draft Kind
with_finish words d = do
  _ ← none_said words
  last ← acting d
  added (Finish ∷ []) last d

unfoldable pub with_token : List (List ℕ) → Draft → Result Draft Kind
with_token words d = do
  said ← one_said words
  last ← acting d
  added (Token said ∷ []) last d

unfoldable pub with_close : List (List ℕ) → Draft → Result Draft Kind
with_close words d = do
  _ ← none_said words
  last ← acting d
  added (Close ∷ []) last d

-- a dump line adds a Finish, and notes its place and the result place that is read after it
unfoldable pub with_dump : List (List ℕ) → Draft → Result Draft Kind
with_dump words d = do
  said ← two_said words
  last ← acting d
  span ← or_error Place (span_at last.areas.results said.0)
  _ ← unless (nat_lt said.1 span.words) Place
  added (Finish ∷ []) (record last { dumps = last.dumps ++ (length last.actions, span.base + said.1) ∷ [] }) d

-- what a line adds in a version, by what its first word names; these are the names that fences may speak of
abbrev pub with_keyword : ℕ → List Name → Keyword → List (List ℕ) → Draft → Result Draft Kind
with_keyword version names StreamLine words d = with_stream version words d
with_keyword version names MemoryLine words d = with_memory words d
with_keyword version names ResultsLine words d = with_results words d
with_keyword version names PutLine words d = with_puts words d
with_keyword version names FillLine words d = with_fill words d
with_keyword version names FlushLine words d = with_flush version names words d
with_keyword version names FinishLine words d = with_finish words d
with_keyword version names TokenLine words d = with_token words d
with_keyword version names CloseLine words d = with_close words d
with_keyword version names DumpLine words d = with_dump words d

-- a line that declares a stream or a memory
abbrev pub is_declaring : Keyword → Bool
is_declaring StreamLine = true
is_declaring MemoryLine = true
is_declaring ResultsLine = true
is_declaring PutLine = false
is_declaring FillLine = false
is_declaring FlushLine = false
is_declaring FinishLine = false
is_declaring TokenLine = false
is_declaring CloseLine = false
is_declaring DumpLine = false

unfoldable pub with_line : ℕ → List Name → List ℕ → List (List ℕ) → Draft → Result Draft Kind
with_line version names name words d = do
  keyword ← or_error Word (keyword_of name)
  with_keyword version names keyword words d
