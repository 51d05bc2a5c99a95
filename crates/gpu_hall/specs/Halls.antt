-- What contracts see of a hall, and what its type keeps beside its house.
use Rattle.std.specs.Prelude.{List, Option, option_map}
use Rattle.atomic_table.specs.Seated.{TableId}
use Rattle.logbook.specs.Pages.{Book}
use Rattle.gpu_plan.specs.Plans.{PlansData}
use Rattle.flush_queue.specs.Seen.{EndData}
use Rattle.live_view.specs.Fronts.{FrontData}
use Rattle.live_view.specs.Seen.{WriterData}
use Rattle.gpu_journal.specs.declared.event.Event.{Event}
use Rattle.house_core.specs.Core.{CoreData}
use Rattle.house_core.specs.Desks.{Out}
use Rattle.gpu_hall.specs.Outs.{NoneIsPaused}
use Rattle.gpu_hall.specs.Views.{HallFits, view_front}

-- the journal, of each stream the run that is out, and where there is a view, which one it is and its versions
pub record HallData : Type 0 where
  pub past : List Event
  pub outs : List Out
  pub view : Option FrontData

-- what contracts see of a hall over this core and this view
abbrev pub hall_seen : CoreData → Option WriterData → HallData
hall_seen core writer = record { past = core.past; outs = core.outs; view = option_map view_front writer }

-- all clauses of a hall beside its house: those of the takers and of the view, and that no run that is out is paused
pub record IsHall (p : PlansData) (words lines : List TableId) (book : Book) (core : CoreData) (takers : List EndData) (writer : Option WriterData) : Type 0 where
  pub fits : HallFits p words lines book core.past takers writer
  pub going : NoneIsPaused core.outs
