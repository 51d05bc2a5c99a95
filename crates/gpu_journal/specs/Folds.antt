-- Laws of what a history says of one stream: its state is the fold of its steps, and its results are the last written.
use Rattle.std.specs.Prelude.{◌≡◌, ℕ, ◌==◌, List, [], ◌∷◌, if◌then◌else◌}
use Rattle.gpu_plan.specs.Plans.{PlansData, plan_of}
use Rattle.stream_state.specs.State.{result_of}
use Rattle.stream_state.specs.Steps as steps
use Rattle.gpu_journal.specs.declared.event.Event.{Event}
use Rattle.gpu_journal.specs.declared.event.Event.TheVariants.{Step}
use Rattle.gpu_journal.specs.World.{World, world, stream_in, asked_by, drawn_by, state_of}
use Rattle.gpu_journal.specs.Written.{result_at}

-- these steps with the one that an event is, if it is one, with the answer of the images before it
abbrev pub with_step : PlansData → Event → World → List steps.Step → List steps.Step
with_step p (Step s words) world before = record { words = words; answer = (drawn_by (asked_by p s words world) world.images).answer } ∷ before
with_step p _ world before = before

-- the steps of stream s, the newest first
abbrev pub steps_of : PlansData → List Event → ℕ → List steps.Step
steps_of p [] s = []
steps_of p (e ∷ h) s = if stream_in e == s then with_step p e (world p h) (steps_of p h s) else steps_of p h s

-- the state of a stream is the fold of its steps
abbrev pub StateIsFold : Type 0
StateIsFold = (p : PlansData) (h : List Event) (s : ℕ) → state_of p h s ≡ steps.stream_of (plan_of p s).areas (steps_of p h s)

-- the state keeps, of each result place, the last value that the history writes there
abbrev pub StateKeepsResults : Type 0
StateKeepsResults = (p : PlansData) (h : List Event) (s place : ℕ) → result_of (state_of p h s) place ≡ result_at p h s place
