-- What the viewers of a run on threads see.
use Rattle.std.specs.Prelude.{◌≡◌, ℕ, List, length, Some, IfSome, Vec}
use Rattle.std.specs.List.{All}
use Rattle.std.specs.declared.alloc.Global.{Global}
use Rattle.gpu_plan.specs.Plans.{PlansData}
use Rattle.gpu_journal.specs.declared.event.Event.{Event}
use Rattle.live_view.specs.declared.look.Look.{Look}
use Rattle.live_view.specs.declared.look.TheConstants.{LOOKS}
use Rattle.live_view.specs.Looks.{IsOf}
use Rattle.live_view.specs.Fronts.{FrontData}
use Rattle.live_view.specs.Seen.{ViewerData}
use Rattle.gpu_hall.specs.Looks.{AreViewerLooks}
use Rattle.gpu_hall.specs.Views.{ShowAll, ShownData}

-- ---- what comes of a run

-- a given number of viewers, and these are the looks of each, in order
pub record AreAllLooks (p : PlansData) (h : List Event) (viewers : ℕ) (all : List (Vec Look Global)) : Type 0 where
  pub many : length all ≡ viewers
  pub each : All (λ looks. AreViewerLooks p h looks.items) all

-- ---- the end

-- the viewer is of the view that is shown, where there is one, and has looked as often as it does while the run goes on
pub record IsViewerOf (shown : ShownData) (viewer : ViewerData) : Type 0 where
  pub view : IfSome shown.view (λ (told : FrontData). told.view ≡ viewer.view)
  pub watched : length viewer.looks ≡ LOOKS

-- the view was reported
pub record IsViewTold (shown : ShownData) (told : FrontData) : Type 0 where
  pub its : shown.view ≡ Some told
  pub all : ShowAll shown.plans shown.past told.versions

-- each look of the viewer was at a version that was reported
pub record SawTold (shown : ShownData) (viewer : ViewerData) : Type 0 where
  pub told : FrontData
  pub is_told : IsViewTold shown told
  pub each : All (IsOf told.versions) viewer.looks
