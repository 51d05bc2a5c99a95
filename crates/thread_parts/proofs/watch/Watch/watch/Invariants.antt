use Rattle.thread_parts.specs.Watches.{HasWatched}
use Rattle.thread_parts.proofs.watch.Watch.watch.Given as goal

-- a given number of looks is done
abbrev pub invariant-loop-done : goal.invariant-loop-done
invariant-loop-done g l = HasWatched l.fn.self.view l.done l.self
