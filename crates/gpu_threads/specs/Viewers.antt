-- What the viewers of a run on threads are made of.
use Rattle.std.specs.Prelude.{◌≡◌, ℕ, replicate, Option, Some, None, IfSome}
use Rattle.logbook.specs.Pages.{Book}
use Rattle.live_view.specs.Seen.{WriterData, fresh_viewer}
use Rattle.gpu_house.specs.Names.{no_view}
use Rattle.gpu_hall.specs.Views.{IsFreshView}
use Rattle.gpu_threads.specs.declared.views.Views.{Views}

-- the view that a writer is of
abbrev pub view_in : Option WriterData → Book
view_in None = no_view
view_in (Some writer) = writer.view

-- a given number of viewers has not looked, all of one view, and where there is a writer it is of this view and has published
-- the first version alone
pub record AreFreshViews (count : ℕ) (views : Views) : Type 0 where
  pub writer : IfSome views.writer (IsFreshView (view_in views.writer))
  pub watches : views.watches.items ≡ replicate count (fresh_viewer (view_in views.writer))
