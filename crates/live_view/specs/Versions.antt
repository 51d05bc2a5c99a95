-- The versions of the view, and the images of a further one.
use Rattle.std.specs.Prelude.{◌≤◌, ℕ, List, [], fold}
use Rattle.std.specs.List.{All}
use Rattle.std.specs.List.Sorted.{IsNonDecreasingBy}
use Rattle.gpu_store.specs.Images.{Pictures, apply}
use Rattle.gpu_store.specs.declared.op.Op.{Op}
use Rattle.live_view.specs.declared.version.Version.{Version}

-- the images after some operations, in order
abbrev pub images_drawn : Pictures → List Op → Pictures
images_drawn images ops = fold (λ before op. (apply before op).images) images ops

-- the version with these images and this number of events
abbrev pub version : Pictures → ℕ → Version
version images events = record { images = images; events = events }

-- the first version: no image and no event
abbrev pub blank : Version
blank = version [] 0

-- the numbers of events do not fall from version to version
abbrev pub AreRising : List Version → Type 0
AreRising versions = IsNonDecreasingBy (λ version. version.events) versions

-- no version has more events
abbrev pub IsLatest : List Version → ℕ → Type 0
IsLatest versions events = All (λ version. version.events ≤ events) versions
