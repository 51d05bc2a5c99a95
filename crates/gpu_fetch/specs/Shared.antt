-- The service's pass over shared words, as the side of its stream.
use Rattle.std.specs.Prelude.{◌≡◌}
use Rattle.atomic_table.specs.Seated.{TableId}
use Rattle.shm_words.specs.Seen.{ServiceData, NoteData}
use Rattle.gpu_fetch.specs.Side.{SideData}

-- what a pass says as a side
abbrev pub side_of : ServiceData → SideData
side_of pass = record { plan = pass.plan; fetched = pass.fetched; finished = pass.finished; greatest = pass.greatest; met = pass.met }

-- the pass is one of these words
abbrev pub IsPassOf : ServiceData → TableId → Type 0
IsPassOf pass words = words ≡ pass.table

-- and so is a note
abbrev pub IsNoteOf : ServiceData → TableId → NoteData → Type 0
IsNoteOf pass words note = IsPassOf pass words × (note.table ≡ pass.table)
