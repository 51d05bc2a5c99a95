-- The rule of a queue, which holds between any two steps.
use Rattle.std.specs.Prelude.{Ok, Err, ◌≡◌, ℕ, ◌+◌, ◌<◌, List, [], ◌∷◌}
use Rattle.atomic_table.specs.Seated.{TableId}
use Rattle.gpu_plan.specs.Plans.{PlanData}
use Rattle.gpu_plan.specs.Passes.{flushes}
use Rattle.shm_words.specs.Seen.{ClientData}
use Rattle.flush_queue.specs.declared.view.View.{View}
use Rattle.flush_queue.specs.declared.view.View.TheVariants.{Fresh, Told, Whole, Poster, Taker}
use Rattle.flush_queue.specs.Views.{Item, note_at, pass_of, count_of}

-- the items are the notes of the flushes from number taken + 1 to posted, each once, rising
abbrev pub AreFlushes : TableId → PlanData → ℕ → List Item → ℕ → Type 0
AreFlushes words plan taken [] posted = taken ≡ posted
AreFlushes words plan taken (item ∷ items) posted = (item ≡ Ok (note_at words plan taken)) × (taken < flushes plan.actions) × AreFlushes words plan (taken + 1) items posted

-- the items of a queue that has one end: none, but for the pass of the client while it goes through
abbrev pub AreWhole : List Item → View → Type 0
AreWhole items Fresh = items ≡ []
AreWhole items (Told pass) = items ≡ Err pass ∷ []
AreWhole items (Whole pass) = items ≡ []
AreWhole items (Poster pass posted) = ⊥
AreWhole items (Taker pass taken) = ⊥

-- the items of a queue that has two ends, a poster and a taker of one client: the flushes that were posted and not taken
pub record AreBetween (items : List Item) (one other : View) : Type 0 where
  pub pass : ClientData
  pub posted : ℕ
  pub taken : ℕ
  pub poster : one ≡ Poster pass posted
  pub taker : other ≡ Taker pass taken
  pub between : AreFlushes pass.table pass.plan taken items posted

-- the rule of a queue: of what it holds, the oldest first, and of what its ends know
abbrev pub KeepsQueue : List Item → List View → Type 0
KeepsQueue items [] = ⊥
KeepsQueue items (one ∷ []) = AreWhole items one
KeepsQueue items (one ∷ other ∷ []) = AreBetween items one other
KeepsQueue items (one ∷ other ∷ more ∷ views) = ⊥

-- what a poster knows of the items: they are the latest flushes that were posted
abbrev pub AreLatestOf : View → List Item → Type 0
AreLatestOf view items = (taken : ℕ) × AreFlushes (pass_of view).table (pass_of view).plan taken items (count_of view)

-- what a taker knows of the items: they are the next flushes to be taken
abbrev pub AreNextOf : View → List Item → Type 0
AreNextOf view items = (posted : ℕ) × AreFlushes (pass_of view).table (pass_of view).plan (count_of view) items posted
