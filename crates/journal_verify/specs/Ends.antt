-- How streams end, event by event.
use Rattle.std.specs.Prelude.{ℕ, ◌==◌, if◌then◌else◌}
use Rattle.gpu_journal.specs.declared.event.Event.{Event}
use Rattle.gpu_journal.specs.declared.event.Event.TheVariants as events
use Rattle.gpu_journal.specs.declared.end.End.{End}
use Rattle.gpu_journal.specs.declared.end.End.TheVariants.{Lost, Closed}

-- how stream s ended, where before this event it had ended so
abbrev pub end_after : Event → ℕ → End → End
end_after (events.Lost t why words) s before = if t == s then Lost why else before
end_after (events.Close t) s before = if t == s then Closed else before
end_after e s before = before
