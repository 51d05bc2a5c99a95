-- Laws of what a run with workers may change.
use Rattle.std.specs.Prelude.{◌≡◌, ◌⊎◌, ◌↔◌, ℕ, true, false, List, ◌++◌, reverse}
use Rattle.std.specs.List.{All}
use Rattle.gpu_store.specs.declared.rect.Rect.{Rect}
use Rattle.gpu_store.specs.Picture.{is_inside}
use Rattle.gpu_plan.specs.Plans.{PlansData}
use Rattle.sync_core.specs.declared.ending.Ending.{Ending}
use Rattle.gpu_journal.specs.declared.event.Event.{Event}
use Rattle.gpu_journal.specs.World.{replay, state_of}
use Rattle.gpu_journal.specs.Legal.{IsLegal}
use Rattle.gpu_journal.specs.Complete.{IsComplete}
use Rattle.gpu_journal.specs.Serial.{serial}
use Rattle.journal_text.specs.Text.{journal_text}
use Rattle.journal_text.specs.Picture.{picture_text}
use Rattle.journal_text.specs.Output.{head_lines, stream_lines, mark_lines, output}
use Rattle.serial_laws.specs.Scripts.{AreLawfulPlans}
use Rattle.serial_laws.specs.Going.{is_memory_loss}
use Rattle.race_laws.specs.Works.{works, IsFront, own_events, bare}
use Rattle.race_laws.specs.Settled.{NoneInFlight, IsSettled}
use Rattle.race_laws.specs.Touches.{Part, overlaps, AreApart, Fits}
use Rattle.race_laws.specs.Alike.{ConflictsAlike}

-- a legal and complete history of a script that loses no stream as out of memory
pub record IsWhole (p : PlansData) (h : List Event) : Type 0 where
  pub legal : IsLegal p h
  pub complete : IsComplete p h
  pub kept : All (λ event. is_memory_loss event ≡ false) h

-- the state of a stream is that of its own events, but for its counts of errors
abbrev pub StatesAreOwn : Type 0
StatesAreOwn = (p : PlansData) (h : List Event) (s : ℕ) → bare (state_of p h s) ≡ bare (state_of p (own_events h s) s)

-- of two legal histories, where in one the client of a stream changed no word in flight, the stream did the same in both as
-- far as both go
abbrev pub WorksAreFronts : Type 0
WorksAreFronts = (p : PlansData) (h g : List Event) (s : ℕ) → IsLegal p h → IsLegal p g → NoneInFlight p h s → IsFront (works g s) (works h s) ⊎ IsFront (works h s) (works g s)

-- where a stream is settled in one of two whole histories, it does the same in both
abbrev pub WorksAgree : Type 0
WorksAgree = (p : PlansData) (h g : List Event) (s : ℕ) → AreLawfulPlans p → IsWhole p h → IsWhole p g → IsSettled p h s → works g s ≡ works h s

-- both leave the same images and the same states
pub record LeaveTheSame (p : PlansData) (h g : List Event) : Type 0 where
  pub images : replay p g ≡ replay p h
  pub states : (s : ℕ) → state_of p g s ≡ state_of p h s

-- where every stream does the same in both, the texels fit, and steps that conflict stand in the same order, both leave the
-- same
abbrev pub ConflictsDecide : Type 0
ConflictsDecide = (p : PlansData) (h g : List Event) → ((s : ℕ) → works g s ≡ works h s) → Fits h → ConflictsAlike h g → LeaveTheSame p h g

-- a history that shows no race: every stream is settled, no two steps of different streams conflict, and the texels fit
pub record IsWithoutRace (p : PlansData) (h : List Event) : Type 0 where
  pub settled : (s : ℕ) → IsSettled p h s
  pub apart : AreApart h
  pub fits : Fits h

-- where one whole history shows none, all do
abbrev pub PremisesAgree : Type 0
PremisesAgree = (p : PlansData) (h g : List Event) → AreLawfulPlans p → IsWhole p h → IsWhole p g → IsWithoutRace p h → IsWithoutRace p g

-- and all leave the same
abbrev pub OneResult : Type 0
OneResult = (p : PlansData) (h g : List Event) → AreLawfulPlans p → IsWhole p h → IsWhole p g → IsWithoutRace p h → LeaveTheSame p h g

-- what the output of a history has between its journal and its marks: its images, and the lines of its streams
abbrev pub between : PlansData → List Event → List ℕ
between p h = picture_text (replay p h) ++ stream_lines p h

-- so all print the same there
abbrev pub OneText : Type 0
OneText = (p : PlansData) (h g : List Event) → AreLawfulPlans p → IsWhole p h → IsWhole p g → IsWithoutRace p h → between p g ≡ between p h

-- the serial history shows it: where that shows no race, the output of every whole history has its images and stream lines,
-- between a journal and marks of its own
abbrev pub SerialShows : Type 0
SerialShows = (p : PlansData) (g : List Event) (mark : Ending → ℕ) → AreLawfulPlans p → IsWhole p g → IsWithoutRace p (serial p)
    → output p mark g ≡ head_lines p ++ journal_text (reverse g) ++ between p (serial p) ++ mark_lines p mark g

-- two rectangles of an image overlap exactly where a texel lies in both
abbrev pub OverlapIsShared : Type 0
OverlapIsShared = (r q : Rect) → (overlaps (Part r) (Part q) ≡ true) ↔ ((x : ℕ) × (y : ℕ) × (is_inside r x y ≡ true) × (is_inside q x y ≡ true))
