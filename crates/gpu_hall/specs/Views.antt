-- How the view of a hall is tied to its journal.
use Rattle.std.specs.Prelude.{◌≡◌, ℕ, ◌-◌, ◌≤◌, List, ◌++◌, length, drop, Option, Some, None, option_map, IfSome}
use Rattle.std.specs.List.{All}
use Rattle.atomic_table.specs.Seated.{TableId}
use Rattle.logbook.specs.Pages.{Book}
use Rattle.gpu_store.specs.declared.op.Op.{Op}
use Rattle.gpu_plan.specs.Plans.{PlansData}
use Rattle.flush_queue.specs.Seen.{EndData}
use Rattle.live_view.specs.declared.version.Version.{Version}
use Rattle.live_view.specs.Versions.{version, images_drawn}
use Rattle.live_view.specs.Fronts.{FrontData}
use Rattle.live_view.specs.Rule.{IsLast}
use Rattle.live_view.specs.Seen.{WriterData, fresh_writer}
use Rattle.gpu_journal.specs.declared.event.Event.{Event}
use Rattle.gpu_journal.specs.World.{replay}
use Rattle.gpu_hall.specs.Takers.{QueuesFit}

-- ---- versions

-- the first n events of a journal
abbrev pub first_events : ℕ → List Event → List Event
first_events n h = drop (length h - n) h

-- the version has the images of a prefix of the journal
pub record IsVersionOf (p : PlansData) (h : List Event) (version : Version) : Type 0 where
  pub few : version.events ≤ length h
  pub images : version.images ≡ replay p (first_events version.events h)

-- the version of all events of the journal
abbrev pub whole_version : PlansData → List Event → Version
whole_version p h = version (replay p h) (length h)

-- each version is of first events of the journal, and the last one is of all
pub record ShowAll (p : PlansData) (h : List Event) (versions : List Version) : Type 0 where
  pub each : All (IsVersionOf p h) versions
  pub last : IsLast (whole_version p h) versions

-- which view a writer is of, and its versions
abbrev pub view_front : WriterData → FrontData
view_front writer = record { view = writer.view; versions = writer.versions }

-- ---- the clause `view`

-- the writer is of the view that is named; each version, published or tried, is of first events of the journal; and the operations
-- noted since the last version lead from its images to those of the journal
pub record ViewFits (p : PlansData) (view : Book) (h : List Event) (writer : WriterData) : Type 0 where
  pub named : writer.view ≡ view
  pub shown : All (IsVersionOf p h) (writer.versions ++ writer.tried)
  pub follows : images_drawn writer.images writer.noted ≡ replay p h

-- the writer is of the view that is named, and has published the first version alone
pub record IsFreshView (view : Book) (writer : WriterData) : Type 0 where
  pub named : writer.view ≡ view
  pub fresh : writer ≡ fresh_writer writer.view writer.spare

-- the clauses of the takers, and of the view where there is one
pub record HallFits (p : PlansData) (words lines : List TableId) (book : Book) (h : List Event) (takers : List EndData) (writer : Option WriterData) : Type 0 where
  pub queues : QueuesFit p words lines h takers
  pub view : IfSome writer (ViewFits p book h)

-- ---- what a call does to the view

-- where there is a view, it has room for this number of operations more
abbrev pub ViewHasRoom : ℕ → Option WriterData → Type 0
ViewHasRoom more writer = IfSome writer (λ it. more ≤ it.spare)

-- where there is a view, it is the same but for its room
abbrev pub IsSameView : Option WriterData → Option WriterData → Type 0
IsSameView None None = Unit {0}
IsSameView (Some old) (Some new) = new ≡ record old { spare = new.spare }
IsSameView _ _ = ⊥

-- where there is a view, these operations were noted in it
abbrev pub HasNoted : List Op → Option WriterData → Option WriterData → Type 0
HasNoted ops None None = Unit {0}
HasNoted ops (Some old) (Some new) = new ≡ record old { noted = old.noted ++ ops; spare = new.spare }
HasNoted ops _ _ = ⊥

-- where there is a view, its last version is of all events of the journal
abbrev pub ShowsAll : PlansData → List Event → Option FrontData → Type 0
ShowsAll p h view = IfSome view (λ front. ShowAll p h front.versions)

-- there is the same view as before, or still none
abbrev pub IsOfSameView : Option FrontData → Option FrontData → Type 0
IsOfSameView old new = option_map (λ (front : FrontData). front.view) new ≡ option_map (λ (front : FrontData). front.view) old

-- ---- the end

-- what a run has shown: the plans, the base and the journal of its report, and where there is a view, which one it is and the versions
-- that it has shown
pub record ShownData : Type 0 where
  pub plans : PlansData
  pub base : ℕ
  pub past : List Event
  pub view : Option FrontData
