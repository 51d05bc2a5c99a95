-- What contracts see of the core of the house.
use Rattle.std.specs.Prelude.{◌≡◌, ℕ, zero, suc, ◌-◌, ◌==◌, ◌<◌, ◌≤◌, Bool, true, not, ◌&&◌, List, [], ◌∷◌, length, map, slice_get, slice_set, slice_index_or, Some}
use Rattle.atomic_table.specs.Seated.{TableId}
use Rattle.gpu_books.specs.Seen.{HalfData, blank_half, no_book}
use Rattle.gpu_plan.specs.Plans.{PlansData, plan_of, is_closed}
use Rattle.gpu_plan.specs.Places.{flush_places}
use Rattle.gpu_plan.specs.Passes.{bound, flushes, greatest}
use Rattle.gpu_plan.specs.MayHold.{MayHold}
use Rattle.sync_core.specs.Standing.{IsKnown, is_open, first_order}
use Rattle.gpu_journal.specs.declared.event.Event.{Event}
use Rattle.gpu_journal.specs.World.{known, state_of}
use Rattle.gpu_journal.specs.Waits.{standing_of, left_of}
use Rattle.gpu_journal.specs.Facts.{flush_of, put_in, facts_at}
use Rattle.house_core.specs.Desks.{Out, at_home, DeskData, RunData}

-- the plans, the journal with its newest event first, for how many more events it has room, and of each stream from 1 on
-- the name of its book and the run that is out
pub record CoreData : Type 0 where
  pub plans : PlansData
  pub past : List Event
  pub spare : ℕ
  pub books : List TableId
  pub outs : List Out

-- the book of stream s
abbrev pub book_at : List TableId → ℕ → TableId
book_at books zero = no_book
book_at books (suc k) = slice_index_or books k no_book

-- the run of stream s that is out
abbrev pub out_at : List Out → ℕ → Out
out_at outs zero = at_home
out_at outs (suc k) = slice_index_or outs k at_home

-- stream s is at home
abbrev pub is_home : List Out → ℕ → Bool
is_home outs s = (out_at outs s).order == 0

-- the same with another run of stream s out
abbrev pub with_out : List Out → ℕ → Out → List Out
with_out outs s out = slice_set outs (s - 1) out

-- of each desk its book
abbrev pub books_of : List DeskData → List TableId
books_of desks = map (λ (desk : DeskData). desk.book) desks

-- of each desk the run that is out
abbrev pub outs_of : List DeskData → List Out
outs_of desks = map (λ (desk : DeskData). desk.out) desks

-- nothing has changed; there may be more room
pub record Stays (old new : CoreData) : Type 0 where
  pub plans : new.plans ≡ old.plans
  pub past : new.past ≡ old.past
  pub books : new.books ≡ old.books
  pub outs : new.outs ≡ old.outs
  pub spare : old.spare ≤ new.spare

-- the journal has one event more; the plans and the books are the same
pub record Grows (old new : CoreData) (event : Event) : Type 0 where
  pub plans : new.plans ≡ old.plans
  pub past : new.past ≡ event ∷ old.past
  pub books : new.books ≡ old.books

-- the journal, the plans and the books are the same
pub record KeepsJournal (old new : CoreData) : Type 0 where
  pub plans : new.plans ≡ old.plans
  pub past : new.past ≡ old.past
  pub books : new.books ≡ old.books

-- a book with its two halves
abbrev pub Booked : Type 0
Booked = TableId × HalfData × HalfData

-- the names of books
abbrev pub names_of : List Booked → List TableId
names_of books = map (λ (book : Booked). book.0) books

-- both halves are of the book, and all numbers are 0
pub record IsFresh (book : Booked) : Type 0 where
  pub kept : book.1 ≡ blank_half book.0
  pub out : book.2 ≡ blank_half book.0

-- the run is of a known stream, the place of its flush is that of the first one that is not finished, its areas are those
-- of the plan, and its put is that of its flush
pub record IsOfPlans (p : PlansData) (run : RunData) : Type 0 where
  pub known : IsKnown (length p.plans) run.stream
  pub areas : run.facts.areas ≡ (plan_of p run.stream).areas
  pub place : slice_get (flush_places (plan_of p run.stream).actions) run.finished ≡ Some run.place
  pub put : run.facts.put ≡ put_in (slice_get (plan_of p run.stream).actions run.place)

-- what the run carries is what the journal says: its order is the first number of its stream, and all else is of that
pub record IsRunOf (p : PlansData) (h : List Event) (run : RunData) : Type 0 where
  pub order : first_order (left_of p h run.stream) ≡ Some run.order
  pub place : run.place ≡ flush_of p h run.stream
  pub facts : run.facts ≡ facts_at p h run.stream
  pub entries : run.entries ≡ (state_of p h run.stream).entries
  pub finished : run.finished ≡ (known p h run.stream).finished
  pub greatest : run.greatest ≡ greatest (known p h run.stream).tokens

-- the run is of the plans of this core, and of the book of its stream
pub record IsOfCore (core : CoreData) (run : RunData) : Type 0 where
  pub plan : IsOfPlans core.plans run
  pub book : run.book ≡ book_at core.books run.stream

-- the run is the one of its stream that is out, and what it carries is what the journal says, while the stream is open
pub record IsAway (core : CoreData) (run : RunData) : Type 0 where
  pub out : out_at core.outs run.stream ≡ record { order = run.order; paused = run.paused }
  pub positive : 0 < run.order
  pub shows : is_open (standing_of core.plans core.past run.stream) ≡ true → IsRunOf core.plans core.past run

-- the plan of stream s has no Close, and all its flushes are ordered and finished
abbrev pub is_done : PlansData → List Event → ℕ → Bool
is_done p h s = not (is_closed (plan_of p s).actions) && (((known p h s).ordered == flushes (plan_of p s).actions) && ((known p h s).finished == flushes (plan_of p s).actions))

-- the word is one that the client of the run's stream may have put, from the run's flush up to the bound by the run's numbers
abbrev pub MayHavePut : PlansData → RunData → ℕ × ℕ → Type 0
MayHavePut p run word = MayHold (plan_of p run.stream).actions run.place (bound (plan_of p run.stream).actions run.finished (run.greatest ∷ [])) word.0 word.1
