-- A run outside the lock that may go on.
use Rattle.std.specs.Prelude.{◌≡◌, false, List, length}
use Rattle.atomic_table.specs.Seated.{TableId}
use Rattle.shm_words.specs.Seen.{NoteData}
use Rattle.gpu_plan.specs.Plans.{PlansData}
use Rattle.gpu_fetch.specs.Shared.{side_of}
use Rattle.house_core.specs.Core.{book_at}
use Rattle.gpu_house.specs.Names.{table_at}
use Rattle.gpu_house.specs.Slots.{RunFits}
use Rattle.gpu_house.specs.House.{OutData}
use Rattle.gpu_hall.specs.declared.full_pass.FullPass.{FullPass}

-- the run is of its stream, words and book, not paused, and has fetched no more than its facts say, so it may fetch its next
-- command or be finished
pub record IsReadyRun (p : PlansData) (words books : List TableId) (out : OutData FullPass NoteData) : Type 0 where
  pub fits : RunFits (λ (side : FullPass). side_of side.pass) (λ (side : FullPass). side.pass.table) (λ (note : NoteData). note.mark) (λ (note : NoteData) (table : TableId). note.table ≡ table) p (table_at words) (book_at books) out.run out.side out.note
  pub going : out.run.paused ≡ false
  pub list : length out.side.pass.fetched ≡ out.run.facts.fetched
