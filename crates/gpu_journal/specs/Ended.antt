-- The streams of a script, and how each has ended.
use Rattle.std.specs.Prelude.{ℕ, ◌==◌, List, [], ◌∷◌, length, if◌then◌else◌}
use Rattle.std.specs.List.{range_with_len}
use Rattle.gpu_plan.specs.Plans.{PlansData}
use Rattle.gpu_journal.specs.declared.event.Event.{Event}
use Rattle.gpu_journal.specs.declared.event.Event.TheVariants as events
use Rattle.gpu_journal.specs.declared.end.End.{End}
use Rattle.gpu_journal.specs.declared.end.End.TheVariants.{Done, Lost, Closed}

-- the streams of a script, from 1 on
abbrev pub streams_of : PlansData → List ℕ
streams_of p = range_with_len 1 (length p.plans)

-- how stream s ended: it was lost, it was closed, or neither; in a complete history it then did all that was asked of it
abbrev pub end_of : List Event → ℕ → End
end_of [] s = Done
end_of (events.Lost t why words ∷ h) s = if t == s then Lost why else end_of h s
end_of (events.Close t ∷ h) s = if t == s then Closed else end_of h s
end_of (e ∷ h) s = end_of h s
