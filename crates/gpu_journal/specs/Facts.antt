-- What the next command of a stream is judged by: its flush, the facts of the stream, and how far its client can be.
use Rattle.std.specs.Prelude.{ℕ, ◌==◌, List, [], ◌∷◌, Option, Some, Result, slice_get, if◌then◌else◌}
use Rattle.gpu_cmd.specs.declared.error.CmdError.{CmdError}
use Rattle.gpu_cmd.specs.declared.command.Command.{Command}
use Rattle.gpu_cmd.specs.declared.facts.StreamFacts.{StreamFacts}
use Rattle.gpu_plan.specs.declared.plan.Action.{Action}
use Rattle.gpu_plan.specs.declared.plan.Action.TheVariants.{Flush}
use Rattle.gpu_plan.specs.Plans.{PlansData, plan_of}
use Rattle.gpu_plan.specs.Passes.{bound}
use Rattle.stream_state.specs.State.{facts_of}
use Rattle.stream_state.specs.Verdict.{verdict}
use Rattle.gpu_journal.specs.declared.event.Event.{Event}
use Rattle.gpu_journal.specs.declared.event.Event.TheVariants.{Order}
use Rattle.gpu_journal.specs.World.{known, state_of}
use Rattle.gpu_journal.specs.Waits.{front}

-- how many actions stand before the flush that drew number n; the 0 of a number that was not drawn is never asked for
abbrev pub place_of : List Event → ℕ → ℕ
place_of [] n = 0
place_of (Order s m c ∷ h) n = if m == n then c else place_of h n
place_of (e ∷ h) n = place_of h n

-- the action place of the flush of the first unprocessed number of stream s
abbrev pub flush_of : PlansData → List Event → ℕ → ℕ
flush_of p h s = place_of h (front p h s)

-- the put of a flush; every order stands at one
abbrev pub put_in : Option Action → ℕ
put_in (Some (Flush put fences)) = put
put_in _ = 0

-- the put of the first unprocessed number of stream s
abbrev pub put_of : PlansData → List Event → ℕ → ℕ
put_of p h s = put_in (slice_get (plan_of p s).actions (flush_of p h s))

-- the facts that the checks of the next command of stream s read
abbrev pub facts_at : PlansData → List Event → ℕ → StreamFacts
facts_at p h s = facts_of (plan_of p s).areas (put_of p h s) (state_of p h s)

-- the verdict on these words, as the next command of stream s
abbrev pub verdict_at : PlansData → List Event → ℕ → List (ℕ × ℕ) → Result Command CmdError
verdict_at p h s words = verdict words (facts_at p h s) (state_of p h s)

-- how far the client of stream s can be: its bound at the flushes finished and the tokens set so far
abbrev pub reach : PlansData → List Event → ℕ → ℕ
reach p h s = bound (plan_of p s).actions (known p h s).finished (known p h s).tokens
