-- What a stream is doing, by the journal.
use Rattle.std.specs.Prelude.{ℕ, List, if◌then◌else◌}
use Rattle.gpu_plan.specs.Plans.{PlansData}
use Rattle.gpu_journal.specs.declared.event.Event.{Event}
use Rattle.gpu_journal.specs.Waits.{standing_of}
use Rattle.house_core.specs.Core.{is_done}
use Rattle.gpu_house.specs.declared.answers.Doing.{Doing}
use Rattle.gpu_house.specs.declared.answers.Doing.TheVariants.{Open, Lost, AllDone, Closed}

-- lost, closed, all done, or else open
abbrev pub doing_of : PlansData → List Event → ℕ → Doing
doing_of p h s = if (standing_of p h s).lost then Lost else (if (standing_of p h s).closed then Closed else (if is_done p h s then AllDone else Open))
