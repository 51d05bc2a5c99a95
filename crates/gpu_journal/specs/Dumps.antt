-- Dumps: what clients read of their results once the await of a dump has passed.
use Rattle.std.specs.Prelude.{◌≡◌, ℕ, ◌≤◌, nat_lt, List, [], ◌∷◌, ◌++◌, take, if◌then◌else◌}
use Rattle.gpu_plan.specs.Plans.{PlansData, plan_of}
use Rattle.gpu_plan.specs.Passes.{flushes}
use Rattle.gpu_journal.specs.declared.event.Event.{Event}
use Rattle.gpu_journal.specs.World.{known}
use Rattle.gpu_journal.specs.Waits.{standing_of}
use Rattle.gpu_journal.specs.Written.{result_at}
use Rattle.gpu_journal.specs.Serial.{count}

-- the dumps that stream s prints: all, or none where it was lost
abbrev pub dumps_of : PlansData → List Event → ℕ → List (ℕ × ℕ)
dumps_of p h s = if (standing_of p h s).lost then [] else (plan_of p s).dumps

-- a value that may be told of a dump: that of its place after a first part of the history, in which at least as many
-- flushes are finished as stand before the dump's action
pub record MayDump (p : PlansData) (h : List Event) (s : ℕ) (dump : ℕ × ℕ) (value : ℕ) : Type 0 where
  pub later : List Event
  pub past : List Event
  pub first_part : later ++ past ≡ h
  pub enough : flushes (take dump.0 (plan_of p s).actions) ≤ (known p past s).finished
  pub found : result_at p past s dump.1 ≡ value

-- of the run on one thread: the shortest first part of the history at whose end the client of stream s has passed an
-- action, or all of it where it never has
abbrev pub passed_at : PlansData → List Event → ℕ → ℕ → List Event
passed_at p [] s action = []
passed_at p (e ∷ h) s action = if nat_lt action (count p h s) then passed_at p h s action else e ∷ h
