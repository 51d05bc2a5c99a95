-- The desks of a new core.
use Rattle.std.specs.Prelude.{List, [], ◌∷◌}
use Rattle.atomic_table.specs.Seated.{TableId}
use Rattle.gpu_plan.specs.Plans.{PlanData}
use Rattle.gpu_plan.specs.Places.{flush_places}
use Rattle.house_core.specs.Desks.{DeskData, fresh_desk}

-- a fresh desk for each plan, with the book of the same position
abbrev pub desks_of : List PlanData → List TableId → List DeskData
desks_of (plan ∷ plans) (book ∷ books) = fresh_desk book (flush_places plan.actions) ∷ desks_of plans books
desks_of _ _ = []
