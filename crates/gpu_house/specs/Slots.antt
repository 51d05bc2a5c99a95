-- The sides that lie in the house while no run is out, with the notes of flushes that no side has met yet.
use Rattle.std.specs.Prelude.{◌≡◌, ℕ, zero, suc, ◌+◌, ◌-◌, ◌<◌, ◌≤◌, Bool, true, false, is_some, List, [], length, map, take, drop, slice_get, slice_set, slice_index_or, if◌then◌else◌, Option, None, IfSome, MatchOption}
use Rattle.std.specs.List.{All}
use Rattle.atomic_table.specs.Seated.{TableId}
use Rattle.gpu_plan.specs.Plans.{PlansData, PlanData, plan_of}
use Rattle.gpu_plan.specs.Places.{flush_places, mark_of}
use Rattle.gpu_plan.specs.Passes.{greatest}
use Rattle.gpu_fetch.specs.Side.{SideData, side_reach}
use Rattle.sync_core.specs.Standing.{is_open}
use Rattle.gpu_journal.specs.declared.event.Event.{Event}
use Rattle.gpu_journal.specs.World.{known, state_of}
use Rattle.gpu_journal.specs.Waits.{standing_of}
use Rattle.house_core.specs.Core.{IsOfPlans, MayHavePut}
use Rattle.house_core.specs.Desks.{RunData}

-- of one stream: its side, while no run of it is out; whether the note of its first unprocessed order has left the queue; this
-- note, where it has and no side has met it; and the notes in the queue
pub record SlotData (Side Note : Type 0) : Type 0 where
  pub side : Option Side
  pub begun : Bool
  pub first : Option Note
  pub notes : List Note

-- no stream
abbrev pub no_slot : {Side Note : Type 0} → SlotData Side Note
no_slot = record { side = None; begun = false; first = None; notes = [] }

-- the slot of stream s among those from stream 1 on
abbrev pub slot_at : {Side Note : Type 0} → List (SlotData Side Note) → ℕ → SlotData Side Note
slot_at slots zero = no_slot
slot_at slots (suc k) = slice_index_or slots k no_slot

-- the same with another slot of stream s
abbrev pub with_slot : {Side Note : Type 0} → List (SlotData Side Note) → ℕ → SlotData Side Note → List (SlotData Side Note)
with_slot slots s slot = slice_set slots (s - 1) slot

-- the note of the first unprocessed order, where no side has met it
abbrev pub note_ahead : {Side Note : Type 0} → SlotData Side Note → Option Note
note_ahead slot = if slot.begun then slot.first else slice_get slot.notes 0

-- the slot once its side has left with this note
abbrev pub left_slot : {Side Note : Type 0} → SlotData Side Note → SlotData Side Note
left_slot slot = record { side = None; begun = true; first = None; notes = if slot.begun then slot.notes else drop 1 slot.notes }

-- the marks of the flushes from one number up to another
abbrev pub marks_between : PlanData → ℕ → ℕ → List ℕ
marks_between plan from upto = map suc (drop from (take upto (flush_places plan.actions)))

-- how many flushes of stream s are finished or begun
abbrev pub begun_of : ℕ → Bool → ℕ
begun_of finished begun = if begun then finished + 1 else finished

-- the side has met the flush of this number, and its client could come to it
pub record HasMet (plan : PlanData) (flush : ℕ) (side : SideData) : Type 0 where
  pub met : side.met ≡ mark_of plan flush
  pub reached : side.met ≤ side_reach side

-- what the side of a stream at home says agrees with the journal
pub record IsAtHome (p : PlansData) (h : List Event) (s : ℕ) (side : SideData) : Type 0 where
  pub fetched : length side.fetched ≡ (state_of p h s).fetched
  pub finished : side.finished ≡ (known p h s).finished
  pub greatest : side.greatest ≡ greatest (known p h s).tokens
  pub met : side.met ≤ mark_of (plan_of p s) (known p h s).finished

module _ {Side Note : Type 0} (side : Side → SideData) (table : Side → TableId) (mark : Note → ℕ) (note_of : Note → TableId → Type 0) where
  -- the notes of stream s: those in the queue are of its orders that are not begun, and one that was taken out and not met is of
  -- the first; where the first was met, the side at home has met it
  pub record NotesFit (p : PlansData) (h : List Event) (s : ℕ) (slot : SlotData Side Note) : Type 0 where
    pub queued : map mark slot.notes ≡ marks_between (plan_of p s) (begun_of (known p h s).finished slot.begun) (known p h s).ordered
    pub first : IfSome slot.first (λ note. (slot.begun ≡ true) × (mark note ≡ mark_of (plan_of p s) (known p h s).finished))
    pub begun : slot.begun ≡ true → (known p h s).finished < (known p h s).ordered
    pub met : slot.begun ≡ true → slot.first ≡ None → IfSome slot.side (λ x. HasMet (plan_of p s) (known p h s).finished (side x))

  -- the slot of stream s, of which a run is out or none; a side leaves with the note of its first order. Its side and its notes
  -- are of the words of the stream, also once that is lost
  pub record SlotFits (p : PlansData) (tables : ℕ → TableId) (h : List Event) (home : Bool) (s : ℕ) (slot : SlotData Side Note) : Type 0 where
    pub own : IfSome slot.side (λ x. ((side x).plan ≡ plan_of p s) × (table x ≡ tables s))
    pub queue_shared : All (λ note. note_of note (tables s)) slot.notes
    pub first_shared : IfSome slot.first (λ note. note_of note (tables s))
    pub at_home : is_some slot.side ≡ home
    pub away : slot.side ≡ None → slot.begun ≡ true
    pub agrees : is_open (standing_of p h s) ≡ true → IfSome slot.side (λ x. IsAtHome p h s (side x))
    pub notes : is_open (standing_of p h s) ≡ true → NotesFit p h s slot

  -- what the type of a run keeps:
  -- - it is of the plans and of its tables, and its side is as it says
  -- - its fetches past those of its facts are such as its client may have put, and at the flush's end there are none
  -- - a note that was not met is of its flush, and else its side has met that
  pub record RunFits (p : PlansData) (tables books : ℕ → TableId) (run : RunData) (x : Side) (note : Option Note) : Type 0 where
    pub of_plans : IsOfPlans p run
    pub book : run.book ≡ books run.stream
    pub plan : (side x).plan ≡ plan_of p run.stream
    pub shared : table x ≡ tables run.stream
    pub note_shared : IfSome note (λ n. note_of n (tables run.stream))
    pub finished : (side x).finished ≡ run.finished
    pub greatest : (side x).greatest ≡ run.greatest
    pub list : run.facts.fetched ≤ length (side x).fetched
    pub may : All (MayHavePut p run) (drop run.facts.fetched (side x).fetched)
    pub whole : run.facts.get ≡ run.facts.put → length (side x).fetched ≡ run.facts.fetched
    pub behind : (side x).met ≤ run.place + 1
    pub noted : MatchOption note (((side x).met ≡ run.place + 1) × ((side x).met ≤ side_reach (side x))) (λ n. mark n ≡ run.place + 1)
