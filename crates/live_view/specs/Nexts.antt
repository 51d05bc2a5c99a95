-- The version that comes next.
use Rattle.live_view.specs.declared.version.Version.{Version}
use Rattle.live_view.specs.declared.next.Next.{Next}
use Rattle.live_view.specs.Versions.{version, images_drawn}
use Rattle.live_view.specs.Steps.{ops_of}
use Rattle.live_view.specs.Copies.{published, steps_pending}

-- the images of the published version with the operations after it, and the number of events
abbrev pub version_of_next : Next → Version
version_of_next next = version (images_drawn (published next.copies.now).version.images (ops_of (steps_pending next.copies.now))) next.events
