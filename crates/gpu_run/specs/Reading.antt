-- What clients have read of their results while the run on one thread goes on.
use Rattle.std.specs.Prelude.{◌≡◌, ℕ, ◌<◌, ◌≤◌, ◌==◌, Option, Some, None, List, [], ◌∷◌, ◌++◌, length, map, drop, if◌then◌else◌}
use Rattle.std.specs.List.{All}
use Rattle.gpu_plan.specs.Plans.{PlansData, plan_of, RiseFrom}
use Rattle.sync_core.specs.Standing.{IsKnown}
use Rattle.gpu_journal.specs.declared.event.Event.{Event}
use Rattle.gpu_journal.specs.Written.{result_at}
use Rattle.gpu_journal.specs.Dumps.{passed_at}
use Rattle.gpu_journal.specs.Serial.{count}
use Rattle.gpu_run.specs.Clients.{RunClientData, client_of_stream, done_at}
use Rattle.gpu_run.specs.Dumps.{dump_read}

-- a dump with what the results now are: the action place, the result place and the value
abbrev pub dump_now : (ℕ → ℕ) → ℕ × ℕ → ℕ × ℕ × ℕ
dump_now result dump = (dump.0, dump.1, result dump.1)

-- what a client reads with its next action, of this place: its next dump, where that stands at the action
abbrev pub read_with : Option (ℕ × ℕ) → ℕ → (ℕ → ℕ) → List (ℕ × ℕ × ℕ)
read_with None action result = []
read_with (Some dump) action result = if dump.0 == action then dump_now result dump ∷ [] else []

-- what a client that has read so much would read now of the other dumps
abbrev pub read_left : List (ℕ × ℕ) → List (ℕ × ℕ × ℕ) → (ℕ → ℕ) → List (ℕ × ℕ × ℕ)
read_left dumps read result = map (dump_now result) (drop (length read) dumps)

-- the client of stream s, which has done a given number of actions, has read the dumps that it has passed, each as it
-- then was; the others are ahead of it, and the results now are still what each of them must find
pub record HasRead (p : PlansData) (h : List Event) (s done : ℕ) (read : List (ℕ × ℕ × ℕ)) : Type 0 where
  pub behind : List (ℕ × ℕ)
  pub ahead : List (ℕ × ℕ)
  pub dumps : behind ++ ahead ≡ (plan_of p s).dumps
  pub found : read ≡ map (dump_read p h s) behind
  pub passed : All (λ dump. dump.0 < done) behind
  pub rising : RiseFrom 0 (plan_of p s).dumps → RiseFrom done ahead
  pub within : done ≤ count p h s
  pub still : (action place : ℕ) → done ≤ action → result_at p (passed_at p h s action) s place ≡ result_at p h s place

-- so have the clients of all streams
abbrev pub HaveRead : PlansData → List Event → List RunClientData → Type 0
HaveRead p h clients = (s : ℕ) → IsKnown (length p.plans) s → HasRead p h s (done_at clients s) (client_of_stream clients s).read
