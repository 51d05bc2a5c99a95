-- What contracts see of a house and of a run that left it, and what their types keep.
use Rattle.std.specs.Prelude.{◌≡◌, ℕ, suc, ◌<◌, Bool, true, List, length, slice_index_or, Option, IfSome}
use Rattle.atomic_table.specs.Seated.{TableId}
use Rattle.gpu_word.specs.Results.{Written}
use Rattle.gpu_cmd.specs.Spans.{words_in}
use Rattle.gpu_plan.specs.Plans.{PlansData, plan_of}
use Rattle.gpu_fetch.specs.Side.{SideData}
use Rattle.wait_hooks.specs.Marks.{Marks}
use Rattle.gpu_journal.specs.declared.event.Event.{Event}
use Rattle.gpu_journal.specs.Written.{written}
use Rattle.house_core.specs.Core.{CoreData, is_home}
use Rattle.house_core.specs.Desks.{RunData}
use Rattle.house_core.specs.Invariant.{IsCore}
use Rattle.gpu_house.specs.Names.{table_at}
use Rattle.gpu_house.specs.Slots.{SlotData, SlotFits}
use Rattle.gpu_house.specs.Marks.{AreMarked}

-- the core, the sides and notes of each stream, and its results
pub record HouseData (Side Note Results : Type 0) : Type 0 where
  pub core : CoreData
  pub slots : List (SlotData Side Note)
  pub results : List Results

-- what a run carries, its side, and the note of its flush, where no fetch has met that
pub record OutData (Side Note : Type 0) : Type 0 where
  pub run : RunData
  pub side : Side
  pub note : Option Note

-- the plans, the base of the marks, and the journal
pub record ReportData : Type 0 where
  pub plans : PlansData
  pub base : ℕ
  pub past : List Event

module _ {Results : Type 0} (takes : Results → ℕ → Bool) (told : Results → Option (List Written)) (results_of : Results → TableId → Type 0) (tables : ℕ → TableId) where
  -- the results of stream s are of its result words and take each of its result places, and where they tell what was written, that
  -- is what the journal's steps wrote
  pub record ResultsFit (p : PlansData) (h : List Event) (s : ℕ) (results : Results) : Type 0 where
    pub shared : results_of results (tables s)
    pub takes_all : (place : ℕ) → place < words_in (plan_of p s).areas.results → takes results place ≡ true
    pub are_written : IfSome (told results) (λ list. list ≡ written p h s)

-- all clauses of a house: those of its core, which `CoreInvariant` names one by one, and those of the parts beside it
module _ {Side Note Results : Type 0} (side : Side → SideData) (table : Side → TableId) (mark : Note → ℕ) (note_of : Note → TableId → Type 0) (takes : Results → ℕ → Bool) (told : Results → Option (List Written)) (results_of : Results → TableId → Type 0) where
  pub record HouseInvariant (p : PlansData) (base : ℕ) (words books result_words : List TableId) (marks : Marks) (house : HouseData Side Note Results) : Type 0 where
    pub core : IsCore house.core
    pub plans : house.core.plans ≡ p
    pub booked : house.core.books ≡ books
    pub slots : length house.slots ≡ length p.plans
    pub homes : (k : ℕ) (other : SlotData Side Note) → k < length house.slots → SlotFits side table mark note_of p (table_at words) house.core.past (is_home house.core.outs (suc k)) (suc k) (slice_index_or house.slots k other)
    pub marked : AreMarked p base house.core.past marks
    pub result_count : length house.results ≡ length p.plans
    pub results : (k : ℕ) (other : Results) → k < length house.results → ResultsFit takes told results_of (table_at result_words) p house.core.past (suc k) (slice_index_or house.results k other)
