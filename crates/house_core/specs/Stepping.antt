-- A step, as the desk of its stream sees it.
use Rattle.std.specs.Prelude.{ℕ}
use Rattle.stream_state.specs.State.{State}
use Rattle.step_parts.specs.declared.acted.Acted.{Acted}
use Rattle.gpu_journal.specs.World.{greatest_after}
use Rattle.house_core.specs.Desks.{DeskData}

-- the desk after a step of the run of this order that left its stream in this state
abbrev pub stepped_desk : State → Acted → ℕ → DeskData → DeskData
stepped_desk left acted order desk = record desk {
  state = left;
  greatest = greatest_after acted.effect desk.greatest;
  out = record { order = order; paused = acted.kept };
}
