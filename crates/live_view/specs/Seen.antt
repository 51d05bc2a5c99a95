-- What contracts see of the writer and of a viewer.
use Rattle.std.specs.Prelude.{◌≡◌, ℕ, ◌-◌, ◌^◌, min, List, [], ◌∷◌, length, Some, unwrap_or}
use Rattle.logbook.specs.Pages.{Book}
use Rattle.gpu_store.specs.Images.{Pictures}
use Rattle.gpu_store.specs.declared.op.Op.{Op}
use Rattle.live_view.specs.declared.version.Version.{Version}
use Rattle.live_view.specs.declared.look.Sight.{Sight}
use Rattle.live_view.specs.declared.shown.Shown.{Shown}
use Rattle.live_view.specs.declared.known.Known.{Known}
use Rattle.live_view.specs.Versions.{blank, version, images_drawn}
use Rattle.live_view.specs.Fronts.{FrontData}
use Rattle.live_view.specs.Looks.{AreLooks, latest_of}
use Rattle.live_view.specs.Rule.{IsLast, IsBegun}

-- the writer: its view, the versions published, those after them whose publishing found no memory, the images of the
-- last version published, the operations noted since, and how many more there is room for
pub record WriterData : Type 0 where
  pub view : Book
  pub versions : List Version
  pub tried : List Version
  pub images : Pictures
  pub noted : List Op
  pub spare : ℕ

-- a viewer: its view, the versions that it knows of, and its looks in order
pub record ViewerData : Type 0 where
  pub view : Book
  pub versions : List Version
  pub looks : List Sight

-- a writer that has published the first version alone
abbrev pub fresh_writer : Book → ℕ → WriterData
fresh_writer view spare = record { view = view; versions = blank ∷ []; tried = []; images = []; noted = []; spare = spare }

-- a viewer that has not looked
abbrev pub fresh_viewer : Book → ViewerData
fresh_viewer view = record { view = view; versions = blank ∷ []; looks = [] }

-- the version that the writer publishes with a number of events
abbrev pub next_version : WriterData → ℕ → Version
next_version writer events = version (images_drawn writer.images writer.noted) events

-- the view of nobody
abbrev pub no_front : FrontData
no_front = record { view = record { number = 0; log_name = 0; cells_name = 0 }; versions = [] }

-- the versions that a reader met
abbrev pub front_in : Known → FrontData
front_in known = unwrap_or known.front no_front

-- what a reader tells
abbrev pub viewer_of : Known → ViewerData
viewer_of known = record { view = (front_in known).view; versions = (front_in known).versions; looks = known.looks }

-- what the type of a viewer keeps: it has met a version, and it keeps the number of the latest that it saw and counts its looks
pub record IsViewer (known : Known) (latest count : ℕ) : Type 0 where
  pub met : known.front ≡ Some (front_in known)
  pub looks : AreLooks (front_in known).versions known.looks
  pub latest_is : latest ≡ latest_of known.looks
  pub counted : count ≡ min (length known.looks) (2 ^ 32 - 1)

-- what the type of the writer keeps: the published version ends its list, which all versions go on
pub record IsViewWriter (shown : Shown) (all : FrontData) : Type 0 where
  pub last : IsLast shown.version shown.front.versions
  pub begun : IsBegun shown.front all
