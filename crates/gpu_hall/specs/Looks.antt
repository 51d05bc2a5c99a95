-- What looks at versions that were reported say of the journal.
use Rattle.std.specs.Prelude.{◌≡◌, ◌≤◌, List, length, slice_get, option_map, Some}
use Rattle.std.specs.List.{All}
use Rattle.std.specs.List.Sorted.{IsNonDecreasingBy}
use Rattle.gpu_store.specs.Sums.{texel_sum}
use Rattle.gpu_plan.specs.Plans.{PlansData}
use Rattle.live_view.specs.declared.look.Look.{Look}
use Rattle.live_view.specs.declared.look.TheConstants.{LOOKS, ALL_LOOKS}
use Rattle.gpu_journal.specs.declared.event.Event.{Event}
use Rattle.gpu_journal.specs.World.{replay}
use Rattle.gpu_hall.specs.Views.{first_events}

-- the look tells how many first events of the journal it is of, and the sum of all texels of their images
pub record IsLookOf (p : PlansData) (h : List Event) (look : Look) : Type 0 where
  pub few : look.events ≤ length h
  pub sum : look.sum ≡ texel_sum (replay p (first_events look.events h))

-- the looks of one viewer: there are ALL_LOOKS; each is of a prefix of the journal; the number of events does not fall from look to
-- look; and the last look is of all events
pub record AreViewerLooks (p : PlansData) (h : List Event) (looks : List Look) : Type 0 where
  pub count : length looks ≡ ALL_LOOKS
  pub each : All (IsLookOf p h) looks
  pub rising : IsNonDecreasingBy (λ look. look.events) looks
  pub last : option_map (λ (look : Look). look.events) (slice_get looks LOOKS) ≡ Some (length h)
