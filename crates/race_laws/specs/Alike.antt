-- Histories in which steps that conflict stand in the same order.
use Rattle.std.specs.Prelude.{◌≡◌, ◌≢◌, ℕ, ◌+◌, ◌<◌, ◌↔◌, true, ◌&&◌, ◌==◌, Option, Some, None, List, [], ◌∷◌, if◌then◌else◌}
use Rattle.gpu_journal.specs.declared.event.Event.{Event}
use Rattle.race_laws.specs.Touches.{conflict, steps_in}

-- of steps, the newest first: how many are of stream s
abbrev pub steps_by : List (ℕ × List (ℕ × ℕ)) → ℕ → ℕ
steps_by [] s = 0
steps_by (step ∷ steps) s = if step.0 == s then steps_by steps s + 1 else steps_by steps s

-- the words of the step of stream s before which it made i steps
abbrev pub step_at : List (ℕ × List (ℕ × ℕ)) → ℕ → ℕ → Option (List (ℕ × ℕ))
step_at [] s i = None
step_at (step ∷ steps) s i = if (step.0 == s) && (steps_by steps s == i) then Some step.1 else step_at steps s i

-- how many steps of stream t stand before that step
abbrev pub steps_before : List (ℕ × List (ℕ × ℕ)) → ℕ → ℕ → ℕ → ℕ
steps_before [] s i t = 0
steps_before (step ∷ steps) s i t = if (step.0 == s) && (steps_by steps s == i) then steps_by steps t else steps_before steps s i t

-- where step j of stream t conflicts with step i of stream s, it stands before that step in both or in none
abbrev pub ConflictsAlike : List Event → List Event → Type 0
ConflictsAlike h g = (s t i j : ℕ) (words others : List (ℕ × ℕ)) → s ≢ t → step_at (steps_in h) s i ≡ Some words → step_at (steps_in h) t j ≡ Some others
    → conflict words others ≡ true → (j < steps_before (steps_in h) s i t) ↔ (j < steps_before (steps_in g) s i t)
