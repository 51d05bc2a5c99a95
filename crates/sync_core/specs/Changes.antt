-- What a stream does that takes no memory, and which waits that ends.
use Rattle.std.specs.Prelude.{◌≡◌, ℕ, ◌<◌, false, List, filter, length}
use Rattle.sync_core.specs.declared.wait.Wait.{Wait}
use Rattle.sync_core.specs.declared.which.Which.{Which}
use Rattle.sync_core.specs.declared.which.Which.TheVariants as which
use Rattle.sync_core.specs.declared.which.Whose.TheVariants.{Stream}
use Rattle.sync_core.specs.declared.change.Change.{Change}
use Rattle.sync_core.specs.declared.change.Change.TheVariants.{Released, Finished, Lost, Closed}
use Rattle.sync_core.specs.Standing.{Standing, first_order}
use Rattle.sync_core.specs.Events as events
use Rattle.sync_core.specs.Events.{Deed}
use Rattle.sync_core.specs.Queues.{is_other, passed}
use Rattle.sync_core.specs.Core.{Core, unprocessed_of, blocked}

-- the deed of its sync event
abbrev pub deed_of : Change → Deed
deed_of (Released r) = events.Released r
deed_of Finished = events.Finished
deed_of Lost = events.WasLost
deed_of Closed = events.WasClosed

-- stream s may do so: it finishes a number that it has, and of which no wait is pending
abbrev pub MayChange : Core → ℕ → Change → Type 0
MayChange core s (Released r) = Unit {0}
MayChange core s Finished = (0 < length (unprocessed_of core s)) × (blocked core s ≡ false)
MayChange core s Lost = Unit {0}
MayChange core s Closed = Unit {0}

-- the waits that stream s has not left: after a loss and a close its own are gone
abbrev pub others_by : ℕ → Change → List Wait → List Wait
others_by s (Released r) waits = waits
others_by s Finished waits = waits
others_by s Lost waits = filter (is_other (Stream s)) waits
others_by s Closed waits = filter (is_other (Stream s)) waits

-- which of them end, by the stream as it is then
abbrev pub which_end : ℕ → Change → Standing → Which
which_end s (Released r) now = which.Released s now.release
which_end s Finished now = passed s (first_order now.left)
which_end s Lost now = which.On s
which_end s Closed now = which.On s
