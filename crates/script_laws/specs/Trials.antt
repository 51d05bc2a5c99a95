-- The line of a trial.
use Rattle.std.specs.Prelude.{ℕ, Bool, true, false, List, ◌++◌, codes, length}
use Rattle.std.specs.List.{count_by}
use Rattle.gpu_store.specs.Images.{Pictures}
use Rattle.gpu_store.specs.Sums.{texel_sum}
use Rattle.gpu_plan.specs.Plans.{PlansData}
use Rattle.sync_core.specs.declared.ending.Ending.{Ending}
use Rattle.gpu_journal.specs.declared.event.Event.{Event}
use Rattle.gpu_journal.specs.declared.event.Event.TheVariants.{Order, Step, Finish, Lost, Close}
use Rattle.gpu_journal.specs.World.{replay}
use Rattle.gpu_journal.specs.Waits.{endings_in}
use Rattle.journal_text.specs.Digits.{hex8, number_text}

-- the event is the loss of a stream
abbrev pub is_loss : Event → Bool
is_loss (Order s n c) = false
is_loss (Step s words) = false
is_loss (Finish s n) = false
is_loss (Lost s why words) = true
is_loss (Close s) = false

-- how many losses a history has: as many as it has lost streams, where it is legal
abbrev pub losses : List Event → ℕ
losses h = count_by is_loss h

-- a number after what it counts
abbrev pub number_after : List ℕ → ℕ → List ℕ
number_after what number = what ++ number_text number

-- the line of a size and a seed, with what a run left: its history, its images and its endings
unfoldable pub line_text : ℕ → ℕ → List Event → Pictures → List Ending → List ℕ
line_text size seed h images endings =
    number_after (codes "trial") size ++ number_text seed
    ++ number_after (codes " events") (length h)
    ++ number_after (codes " lost") (losses h)
    ++ number_after (codes " images") (length images)
    ++ number_after (codes " endings") (length endings)
    ++ codes " sum " ++ hex8 (texel_sum images) ++ codes "\n"

-- the line of a trial of a size and a seed, whose script has these plans and was run to this history
abbrev pub trial_text : ℕ → ℕ → PlansData → List Event → List ℕ
trial_text size seed p h = line_text size seed h (replay p h) (endings_in p h)
