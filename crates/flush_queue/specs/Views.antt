-- What each end of a queue knows, and what each step makes of it.
use Rattle.std.specs.Prelude.{Result, Ok, Err, ◌≡◌, ℕ, ◌+◌, ◌<◌, []}
use Rattle.atomic_table.specs.Seated.{TableId}
use Rattle.gpu_plan.specs.Plans.{PlanData, no_plan}
use Rattle.gpu_plan.specs.Passes.{flushes}
use Rattle.gpu_plan.specs.Places.{mark_of}
use Rattle.shm_words.specs.Seen.{NoteData, ClientData, client_at}
use Rattle.flush_queue.specs.declared.view.View.{View}
use Rattle.flush_queue.specs.declared.view.View.TheVariants.{Fresh, Told, Whole, Poster, Taker}

-- what lies in a queue: the note of a flush, or the pass of the client
abbrev pub Item : Type 0
Item = Result NoteData ClientData

-- the note of a flush, counting flushes from 0
abbrev pub note_at : TableId → PlanData → ℕ → NoteData
note_at words plan flush = record { table = words; mark = mark_of plan flush }

-- the pass of nobody: of no words and no plan
abbrev pub no_pass : ClientData
no_pass = client_at record { words = 0; slots = 0; views_name = 0; atom = 0; block = 0; offset = 0; slot_names = [] } no_plan

-- the pass that is an item
abbrev pub pass_in : Item → ClientData
pass_in (Ok note) = no_pass
pass_in (Err pass) = pass

-- the pass that an end knows
abbrev pub pass_of : View → ClientData
pass_of Fresh = no_pass
pass_of (Told pass) = pass
pass_of (Whole pass) = pass
pass_of (Poster pass posted) = pass
pass_of (Taker pass taken) = pass

-- how many flushes went through an end
abbrev pub count_of : View → ℕ
count_of Fresh = 0
count_of (Told pass) = 0
count_of (Whole pass) = 0
count_of (Poster pass posted) = posted
count_of (Taker pass taken) = taken

-- the note of the next flush at an end
abbrev pub next_note : View → NoteData
next_note view = note_at (pass_of view).table (pass_of view).plan (count_of view)

-- there is a next flush at an end
abbrev pub HasNext : View → Type 0
HasNext view = count_of view < flushes (pass_of view).plan.actions

-- what a step tells: of the view before, the item, and the view after
abbrev QueueTelling : Type 1
QueueTelling = View → Item → View → Type 0

-- the pass is put into the queue
abbrev pub tells : QueueTelling
tells before item after = after ≡ Told (pass_in item)

-- the pass comes out again, the very one that was put in
abbrev pub learns : QueueTelling
learns before item after = (after ≡ Whole (pass_of before)) × (item ≡ Err (pass_of before))

-- the end becomes the poster's
abbrev pub poster_part : View → View
poster_part view = Poster (pass_of view) 0

-- and a new one the taker's
abbrev pub taker_part : View → View
taker_part view = Taker (pass_of view) 0

-- one flush more is posted
abbrev pub posts : QueueTelling
posts before item after = after ≡ Poster (pass_of before) (count_of before + 1)

-- one flush more is taken, and what came out is its note
abbrev pub takes_note : QueueTelling
takes_note before item after = (after ≡ Taker (pass_of before) (count_of before + 1)) × (item ≡ Ok (next_note before)) × HasNext before
