-- What a history writes to the results of its streams.
use Rattle.std.specs.Prelude.{ℕ, ◌==◌, List, [], ◌∷◌, ◌++◌, if◌then◌else◌}
use Rattle.gpu_word.specs.Results as results
use Rattle.gpu_plan.specs.Plans.{PlansData, plan_of}
use Rattle.stream_state.specs.Steps.{writes}
use Rattle.gpu_journal.specs.declared.event.Event.{Event}
use Rattle.gpu_journal.specs.declared.event.Event.TheVariants.{Step, Finish}
use Rattle.gpu_journal.specs.World.{stream_in, state_of}

-- what an event of stream s writes: a step its writes in rising order of places, a finish one finish
abbrev pub written_by : PlansData → List Event → ℕ → Event → List results.Written
written_by p g s (Step t taken) = results.writes_listed (writes (plan_of p s).areas taken (state_of p g s))
written_by p g s (Finish t n) = results.Finish ∷ []
written_by p g s _ = []

-- the writes and finishes of stream s, the oldest first
unfoldable pub written : PlansData → List Event → ℕ → List results.Written
written p [] s = []
written p (e ∷ h) s = if stream_in e == s then written p h s ++ written_by p h s e else written p h s

-- the last value that was written to a result place of stream s, or 0 where none was
abbrev pub result_at : PlansData → List Event → ℕ → ℕ → ℕ
result_at p h s place = results.last_written (written p h s) place
