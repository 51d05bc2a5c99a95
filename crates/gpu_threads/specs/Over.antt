-- Where nothing is left to do.
use Rattle.std.specs.Prelude.{◌≢◌, ℕ, List}
use Rattle.sync_core.specs.Standing.{IsKnown}
use Rattle.gpu_plan.specs.Plans.{PlansData}
use Rattle.gpu_journal.specs.declared.event.Event.{Event}
use Rattle.gpu_house.specs.declared.answers.Doing.TheVariants.{Open}
use Rattle.gpu_house.specs.Ending.{doing_of}

-- none of streams 1 to n is open
abbrev pub AreOver : PlansData → List Event → ℕ → Type 0
AreOver p h n = (s : ℕ) → IsKnown n s → doing_of p h s ≢ Open
