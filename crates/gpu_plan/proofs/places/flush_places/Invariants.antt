use Rattle.std.proofs.Common.{◌≡◌, ◌++◌, drop}
use Rattle.gpu_plan.specs.Places.{flush_places, flush_places_from}
use Rattle.gpu_plan.proofs.places.flush_places.Given as goal

abbrev pub invariant-loop-place : goal.invariant-loop-place
invariant-loop-place l = l.places.items ++ flush_places_from l.place (drop l.place l.actions) ≡ flush_places l.actions
