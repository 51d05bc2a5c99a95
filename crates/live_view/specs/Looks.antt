-- Looks at versions.
use Rattle.std.specs.Prelude.{◌≡◌, ℕ, ◌+◌, max, List, fold, Some, slice_get, option_map}
use Rattle.std.specs.List.{All}
use Rattle.std.specs.List.Sorted.{IsNonDecreasingBy}
use Rattle.gpu_store.specs.Sums.{texel_sum}
use Rattle.live_view.specs.declared.version.Version.{Version}
use Rattle.live_view.specs.declared.look.Look.{Look}
use Rattle.live_view.specs.declared.look.Sight.{Sight}

-- what a look at a version tells: its number of events, and the sum of all its texels
abbrev pub look_of : Version → Look
look_of version = record { events = version.events; sum = texel_sum version.images }

-- a look at the version at a place
abbrev pub sight : ℕ → Look → Sight
sight place look = record { place = place; look = look }

-- the look is one at the version that stands at its place
abbrev pub IsOf : List Version → Sight → Type 0
IsOf versions sight = option_map look_of (slice_get versions sight.place) ≡ Some sight.look

-- the looks of one viewer: each is of a version of the list, and neither places nor events fall
pub record AreLooks (versions : List Version) (looks : List Sight) : Type 0 where
  pub each : All (IsOf versions) looks
  pub places : IsNonDecreasingBy (λ sight. sight.place) looks
  pub events : IsNonDecreasingBy (λ sight. sight.look.events) looks

-- how many versions there are up to the latest that a look is of, and 0 where there is no look
abbrev pub latest_of : List Sight → ℕ
latest_of looks = fold (λ latest sight. max latest (sight.place + 1)) 0 looks
