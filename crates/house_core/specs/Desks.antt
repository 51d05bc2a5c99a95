-- What the house keeps of one stream beside its waits, and what a run of it carries.
use Rattle.std.specs.Prelude.{◌≡◌, ℕ, zero, suc, ◌<◌, Bool, false, List, [], ◌∷◌, slice_index_or, if◌then◌else◌}
use Rattle.atomic_table.specs.Seated.{TableId}
use Rattle.gpu_books.specs.Seen.{HalfData, no_book}
use Rattle.gpu_cmd.specs.declared.areas.Areas.{Areas}
use Rattle.gpu_cmd.specs.declared.facts.StreamFacts.{StreamFacts}
use Rattle.stream_state.specs.State.{State, first_state, facts_of}
use Rattle.house_core.specs.declared.desk.OtherHalf.{OtherHalf}
use Rattle.house_core.specs.declared.desk.OtherHalf.TheVariants as other
use Rattle.house_core.specs.declared.walk.Walk.{Walk}
use Rattle.house_core.specs.Walks.{start}

-- the order number of a run that is out, or 0 where none is, and whether that run is paused
pub record Out : Type 0 where
  pub order : ℕ
  pub paused : Bool

-- no run is out
abbrev pub at_home : Out
at_home = record { order = 0; paused = false }

-- the run that is out, by where the other half of its stream's book is
abbrev pub out_of : OtherHalf → Out
out_of (other.Home half) = at_home
out_of (other.Out order paused) = record { order = order; paused = paused }

-- its book, where its flushes stand, its state, how many of its flushes are ordered and how many are finished, its greatest
-- token, whether it is lost, whether it is closed, how far its client was found to come, and the run that is out
pub record DeskData : Type 0 where
  pub book : TableId
  pub places : List ℕ
  pub state : State
  pub ordered : ℕ
  pub finished : ℕ
  pub greatest : ℕ
  pub lost : Bool
  pub closed : Bool
  pub walk : Walk
  pub out : Out

-- of a stream without events
abbrev pub fresh_desk : TableId → List ℕ → DeskData
fresh_desk book places = record {
  book = book;
  places = places;
  state = first_state;
  ordered = 0;
  finished = 0;
  greatest = 0;
  lost = false;
  closed = false;
  walk = start;
  out = at_home;
}

-- of a stream that no script has
abbrev pub no_desk : DeskData
no_desk = fresh_desk no_book []

-- the desk of stream s in a row that begins with stream 1
abbrev pub desk_at : List DeskData → ℕ → DeskData
desk_at desks zero = no_desk
desk_at desks (suc k) = slice_index_or desks k no_desk

-- what a run carries: its stream, its order number, the place of its flush among the actions, the facts of the next command,
-- the entries consumed, the flushes finished, the greatest token, whether its latest step was paused, and its book
pub record RunData : Type 0 where
  pub stream : ℕ
  pub order : ℕ
  pub place : ℕ
  pub facts : StreamFacts
  pub entries : ℕ
  pub finished : ℕ
  pub greatest : ℕ
  pub paused : Bool
  pub book : TableId

-- 1 for true
abbrev pub flag : Bool → ℕ
flag b = if b then 1 else 0

-- the six numbers of a book: the entries consumed, the words fetched, the flushes finished, the greatest token, and of the
-- run that is out its order and whether it is paused
abbrev pub book_numbers : ℕ → ℕ → ℕ → ℕ → Out → List ℕ
book_numbers entries fetched finished greatest out = entries ∷ fetched ∷ finished ∷ greatest ∷ out.order ∷ flag out.paused ∷ []

-- a half of the desk's book with its numbers
abbrev pub kept_half : DeskData → HalfData
kept_half desk = record { book = desk.book; numbers = book_numbers desk.state.entries desk.state.fetched desk.finished desk.greatest desk.out }

-- the other half is at home and is this one, or it is with a run that has an order
abbrev pub IsHomeOrOut : OtherHalf → HalfData → Type 0
IsHomeOrOut (other.Home half) kept = half ≡ kept
IsHomeOrOut (other.Out order paused) kept = 0 < order

-- both halves are of this book and have these numbers
pub record AreBooked (book : TableId) (numbers : List ℕ) (kept : HalfData) (half : OtherHalf) : Type 0 where
  pub half_kept : kept ≡ record { book = book; numbers = numbers }
  pub half_other : IsHomeOrOut half kept

-- what a run carries agrees with what the house keeps of its stream
pub record Agree (run : RunData) (desk : DeskData) : Type 0 where
  pub entries : run.entries ≡ desk.state.entries
  pub fetched : run.facts.fetched ≡ desk.state.fetched
  pub finished : run.finished ≡ desk.finished
  pub greatest : run.greatest ≡ desk.greatest
  pub order : run.order ≡ desk.out.order
  pub paused : run.paused ≡ desk.out.paused

-- the run of a desk, with these areas, which stands at this place, up to this put
abbrev pub run_of : ℕ → Areas → ℕ → ℕ → DeskData → RunData
run_of s areas place put desk = record {
  stream = s;
  order = desk.out.order;
  place = place;
  facts = facts_of areas put desk.state;
  entries = desk.state.entries;
  finished = desk.finished;
  greatest = desk.greatest;
  paused = desk.out.paused;
  book = desk.book;
}
