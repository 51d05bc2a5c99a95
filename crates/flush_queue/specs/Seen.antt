-- What contracts see of a queue and of its ends.
use Rattle.std.specs.Prelude.{◌≡◌, ℕ, ◌+◌, [], List, Option}
use Rattle.atomic_table.specs.Seated.{TableId}
use Rattle.atomic_table.specs.Table.{Me}
use Rattle.crossbeam_queue.specs.declared.array_queue.Doing.{Doing}
use Rattle.crossbeam_queue.specs.declared.array_queue.Slotted.{Slotted}
use Rattle.crossbeam_queue.specs.Passes.{Pass, view, ruled_capacity}
use Rattle.gpu_plan.specs.Plans.{PlanData}
use Rattle.shm_words.specs.Seen.{NoteData}
use Rattle.flush_queue.specs.declared.view.View.{View}
use Rattle.flush_queue.specs.declared.view.View.TheVariants.{Poster, Taker}
use Rattle.flush_queue.specs.Views.{Item, note_at, pass_of, count_of}
use Rattle.flush_queue.specs.Rule.{AreFlushes}

-- the queue of an end, the words and the plan of its stream, and how many flushes were posted or taken
pub record EndData : Type 0 where
  pub queue : TableId
  pub words : TableId
  pub plan : PlanData
  pub count : ℕ

-- an end at which nothing was done
abbrev pub fresh_end : TableId → TableId → PlanData → EndData
fresh_end queue words plan = record { queue = queue; words = words; plan = plan; count = 0 }

-- an end with one flush more
abbrev pub one_more : EndData → EndData
one_more end = record end { count = end.count + 1 }

-- the note of the next flush at an end
abbrev pub note_of : EndData → NoteData
note_of end = note_at end.words end.plan end.count

-- the items are the latest flushes that were posted at an end
abbrev pub AreLatest : EndData → List Item → Type 0
AreLatest end items = (taken : ℕ) × AreFlushes end.words end.plan taken items end.count

-- the ruled queue of the library in which the items lie
abbrev pub Ring : Type 0 → Type 0 → Type 0
Ring Q A = Slotted (Option Item) (Doing Item View) Q A

-- the name of a queue
abbrev pub name_of : {Q A : Type 0} → Ring Q A → TableId
name_of ring = ring.table.shared.table_id

-- it holds 16 items at most
abbrev pub IsQueue : {Q A : Type 0} → Ring Q A → Type 0
IsQueue ring = ruled_capacity ring ≡ 16

-- what the pass of an end tells
abbrev pub end_told : Pass Item View → EndData
end_told pass = record { queue = pass.table_id; words = (pass_of (view pass)).table; plan = (pass_of (view pass)).plan; count = count_of (view pass) }

-- what a seat at a queue has
abbrev pub QueueSeat : Type 0
QueueSeat = Me (Option Item) (Doing Item View)

-- the seat is a poster's, and no slot is out with it
abbrev pub IsPoster : QueueSeat → Type 0
IsPoster seat = (seat.0.client ≡ Poster (pass_of seat.0.client) (count_of seat.0.client)) × (seat.1 ≡ [])

-- the seat is a taker's
abbrev pub IsTaker : QueueSeat → Type 0
IsTaker seat = (seat.0.client ≡ Taker (pass_of seat.0.client) (count_of seat.0.client)) × (seat.1 ≡ [])
