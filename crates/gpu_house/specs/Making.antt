-- What a new house is made of.
use Rattle.std.specs.Prelude.{◌≡◌, ℕ, suc, ◌<◌, Bool, true, false, List, [], ◌∷◌, map, Option, Some, None}
use Rattle.atomic_table.specs.Seated.{TableId}
use Rattle.gpu_word.specs.Results.{Written}
use Rattle.gpu_cmd.specs.Spans.{words_in}
use Rattle.gpu_plan.specs.Plans.{PlanData}
use Rattle.gpu_fetch.specs.Side.{SideData, fresh_side}
use Rattle.gpu_house.specs.Slots.{SlotData}

-- the slot of a stream that has done nothing
abbrev pub fresh_slot : {Side Note : Type 0} → Side → SlotData Side Note
fresh_slot side = record { side = Some side; begun = false; first = None; notes = [] }

-- a slot for each side
abbrev pub fresh_slots : {Side Note : Type 0} → List Side → List (SlotData Side Note)
fresh_slots sides = map fresh_slot sides

-- there is a side for each plan, in order, which has done nothing and has the words that are named for it
abbrev pub AreFreshSides : {Side : Type 0} → (Side → SideData) → (Side → TableId) → List PlanData → List TableId → List Side → Type 0
AreFreshSides side table plans words sides = (map side sides ≡ map fresh_side plans) × (map table sides ≡ words)

-- these results are of this table and take every result place of the plan, and where they tell what was written, that is nothing
pub record IsFreshFor {Results : Type 0} (takes : Results → ℕ → Bool) (told : Results → Option (List Written)) (results_of : Results → TableId → Type 0) (plan : PlanData) (table : TableId) (results : Results) : Type 0 where
  pub shared : results_of results table
  pub takes_all : (place : ℕ) → place < words_in plan.areas.results → takes results place ≡ true
  pub none_written : (list : List Written) → told results ≡ Some list → list ≡ []

-- there are such results for each plan from stream s on, in order, of the table that is named for it
abbrev pub AreFreshResults : {Results : Type 0} → (Results → ℕ → Bool) → (Results → Option (List Written)) → (Results → TableId → Type 0) → (ℕ → TableId) → ℕ → List PlanData → List Results → Type 0
AreFreshResults takes told results_of tables s [] [] = Unit {0}
AreFreshResults takes told results_of tables s (plan ∷ plans) (results ∷ more) =
    IsFreshFor takes told results_of plan (tables s) results × AreFreshResults takes told results_of tables (suc s) plans more
AreFreshResults takes told results_of tables s _ _ = ⊥
