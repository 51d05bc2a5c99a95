-- What a history says of order numbers and waits: its sync events, and what follows from them.
use Rattle.std.specs.Prelude.{◌≡◌, ℕ, true, List, [], ◌∷◌, length, Option, Some, None, slice_get}
pub use Rattle.gpu_plan.specs.Fencing.{fences_in}
use Rattle.gpu_plan.specs.Plans.{PlansData, number_of, plan_of}
use Rattle.stream_state.specs.declared.effect.Effect.{Effect}
use Rattle.stream_state.specs.declared.effect.Effect.TheVariants.{Release, Wait, WaitName}
use Rattle.sync_core.specs.declared.wait.Number.{Number}
use Rattle.sync_core.specs.declared.wait.Wait as waits
use Rattle.sync_core.specs.declared.ending.Ending.{Ending}
use Rattle.sync_core.specs.Standing.{Standing, IsKnown, is_open, front_of}
use Rattle.sync_core.specs.Events.{Deed, Ordered, Waited, Released, Finished, WasLost, WasClosed, SyncEvent, happened, orders, standing}
use Rattle.sync_core.specs.Pending.{pending, endings}
use Rattle.gpu_journal.specs.declared.event.Event.{Event}
use Rattle.gpu_journal.specs.declared.event.Event.TheVariants.{Order, Step, Finish, Lost, Close}
use Rattle.gpu_journal.specs.World.{World, world, stream_in, asked_by}

-- what a step does to waits, by what it asks: it releases, it waits on a stream, or it waits on the stream of a name
abbrev pub deed_asked : PlansData → Effect → Option Deed
deed_asked p (Release release) = Some (Released release)
deed_asked p (Wait stream release) = Some (Waited stream release)
deed_asked p (WaitName name release) = Some (Waited (number_of p.plans name) release)
deed_asked p _ = None

-- what an event does to order numbers and waits; an order draws a number with the fences of its flush
abbrev pub deed : PlansData → Event → World → Option Deed
deed p (Order s n c) world = Some (Ordered (fences_in (slice_get (plan_of p s).actions c)))
deed p (Step s words) world = deed_asked p (asked_by p s words world)
deed p (Finish s n) world = Some Finished
deed p (Lost s why words) world = Some WasLost
deed p (Close s) world = Some WasClosed

-- the sync events of a history
unfoldable pub sync_of : PlansData → List Event → List SyncEvent
sync_of p [] = []
sync_of p (e ∷ h) = happened (stream_in e) (deed p e (world p h)) (sync_of p h)

-- what is known of the order numbers of stream s
abbrev pub standing_of : PlansData → List Event → ℕ → Standing
standing_of p h s = standing (sync_of p h) s

-- the unprocessed numbers of stream s
abbrev pub left_of : PlansData → List Event → ℕ → List Number
left_of p h s = (standing_of p h s).left

-- the first of them, or 0
abbrev pub front : PlansData → List Event → ℕ → ℕ
front p h s = front_of (left_of p h s)

-- how many numbers are drawn
abbrev pub drawn : PlansData → List Event → ℕ
drawn p h = orders (sync_of p h)

-- the waits that are pending
abbrev pub pending_in : PlansData → List Event → List waits.Wait
pending_in p h = pending (length p.plans) (sync_of p h)

-- the waits that have ended, in order
abbrev pub endings_in : PlansData → List Event → List Ending
endings_in p h = endings (length p.plans) (sync_of p h)

-- stream s is one of the script, and is neither lost nor closed
pub record IsOpen (p : PlansData) (h : List Event) (s : ℕ) : Type 0 where
  pub known : IsKnown (length p.plans) s
  pub stays : is_open (standing_of p h s) ≡ true
