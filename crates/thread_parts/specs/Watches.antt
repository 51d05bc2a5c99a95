-- What a viewer on its thread keeps, and how it looks.
use Rattle.std.specs.Prelude.{◌≡◌, ℕ, ◌-◌, ◌<◌, ◌≤◌, List, [], ◌∷◌, ◌++◌, length, map, slice_index_or}
use mathlib.Core.List.{IsPrefix}
use Rattle.logbook.specs.Pages.{Book}
use Rattle.live_view.specs.declared.look.Look.{Look}
use Rattle.live_view.specs.Looks.{sight}
use Rattle.live_view.specs.Seen.{ViewerData}
use Rattle.live_view.specs.declared.look.TheConstants.{ALL_LOOKS}

-- it keeps a list of what it saw, which has room for all its looks
pub record KeepsLooks (viewer : ViewerData) (seen : List Look) (capacity : ℕ) : Type 0 where
  pub seen_is : seen ≡ map (λ sight. sight.look) viewer.looks
  pub room : ALL_LOOKS ≤ capacity

-- it is of this view, and has looked so often
pub record HasWatched (view : Book) (count : ℕ) (viewer : ViewerData) : Type 0 where
  pub view_is : viewer.view ≡ view
  pub count_is : length viewer.looks ≡ count

-- it has not looked
abbrev pub HasNotLooked : ViewerData → Type 0
HasNotLooked viewer = length viewer.looks ≡ 0

-- each of these viewers is of the same view as before, and has looked so often
pub record HaveWatched (count : ℕ) (old new : List ViewerData) : Type 0 where
  pub many : length new ≡ length old
  pub each : (k : ℕ) (other : ViewerData) → k < length old → HasWatched (slice_index_or old k other).view count (slice_index_or new k other)

-- it looked once more, at the last version that it knows of then
pub record HasLooked (old new : ViewerData) : Type 0 where
  pub view : new.view ≡ old.view
  pub longer : IsPrefix old.versions new.versions
  pub look : Look
  pub looks : new.looks ≡ old.looks ++ sight (length new.versions - 1) look ∷ []
