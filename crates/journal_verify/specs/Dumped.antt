-- What the dumped result places of a stream have held, and which values may be told of its dumps.
use Rattle.std.specs.Prelude.{◌≡◌, ℕ, ◌<◌, ◌^◌, ◌==◌, Bool, true, false, nat_le, is_some, List, [], ◌∷◌, Option, Some, None, take, slice_index, slice_index_or, if◌then◌else◌}
use Rattle.std.specs.List.{All}
use Rattle.gpu_plan.specs.Plans.{PlanData, PlansData, plan_of}
use Rattle.gpu_plan.specs.Passes.{flushes}
use Rattle.stream_state.specs.Writes.{Writes, left_by_writes}
use Rattle.gpu_journal.specs.declared.event.Event.{Event}
use Rattle.gpu_journal.specs.World.{known}
use Rattle.gpu_journal.specs.Written.{result_at}
use Rattle.gpu_journal.specs.Dumps.{MayDump}
use Rattle.journal_verify.specs.Reached.{last_of}

-- which places are dumped, the value of each of them now, and of each place and each value that it no longer has, how many
-- flushes were finished when it last had that
pub record DumpedData : Type 0 where
  pub is_dumped : List Bool
  pub values : List ℕ
  pub left : List ((ℕ × ℕ) × ℕ)

-- the place is dumped
abbrev pub is_dumped_in : DumpedData → ℕ → Bool
is_dumped_in dumped place = slice_index_or dumped.is_dumped place false

-- how many flushes were finished when a dumped place last had a value, where so many are finished now
abbrev pub last_with : DumpedData → ℕ → ℕ → ℕ → Option ℕ
last_with dumped finished place value =
    if slice_index dumped.values place == value then Some finished else last_of dumped.left place value

-- each value of which it is kept when a place last had it is one of 32 bits
abbrev pub AreSmall : List ((ℕ × ℕ) × ℕ) → Type 0
AreSmall left = (place value : ℕ) → is_some (last_of left place value) ≡ true → value < 2 ^ 32

-- nothing is written yet, and each dump's place is dumped
pub record IsUntouched (plan : PlanData) (dumped : DumpedData) : Type 0 where
  pub watched : All (λ dump. is_dumped_in dumped dump.1 ≡ true) plan.dumps
  pub values : (place : ℕ) → slice_index dumped.values place ≡ 0
  pub left : dumped.left ≡ []

-- a value is written to a place while so many flushes are finished
pub record IsWrittenTo (place value finished : ℕ) (old new : DumpedData) : Type 0 where
  pub dumped : new.is_dumped ≡ old.is_dumped
  pub values : (q : ℕ) → is_dumped_in old q ≡ true
      → slice_index new.values q ≡ (if place == q then value else slice_index old.values q)
  pub left : (q v : ℕ) → is_dumped_in old q ≡ true
      → last_of new.left q v ≡ (if place == q then last_with old finished q v else last_of old.left q v)

-- a step writes these while so many flushes are finished
pub record HasTakenUp (writes : Writes) (finished : ℕ) (old new : DumpedData) : Type 0 where
  pub dumped : new.is_dumped ≡ old.is_dumped
  pub values : (q : ℕ) → is_dumped_in old q ≡ true
      → slice_index new.values q ≡ left_by_writes writes q (slice_index old.values q)
  pub left : (q v : ℕ) → is_dumped_in old q ≡ true → (slice_index new.values q ≡ v → ⊥)
      → last_of new.left q v ≡ last_with old finished q v

-- ---- by the history

-- how many flushes of stream s were finished when a result place last had a value, the newest event first; before any
-- event each place has 0
abbrev pub last_held : PlansData → List Event → ℕ → ℕ → ℕ → Option ℕ
last_held p [] s place value = if 0 == value then Some 0 else None
last_held p (e ∷ h) s place value =
    if result_at p (e ∷ h) s place == value then Some (known p (e ∷ h) s).finished else last_held p h s place value

-- the number is there, and is at least this one
abbrev pub is_from : ℕ → Option ℕ → Bool
is_from least None = false
is_from least (Some last) = nat_le least last

-- the record of stream s is what the history says of its dumped places:
-- - each dump's place is dumped
-- - each dumped place has its value
-- - each value that it no longer has is kept with the finishes by which it last had that
pub record HoldsDumped (p : PlansData) (h : List Event) (s : ℕ) (dumped : DumpedData) : Type 0 where
  pub watched : All (λ dump. is_dumped_in dumped dump.1 ≡ true) (plan_of p s).dumps
  pub values : (place : ℕ) → is_dumped_in dumped place ≡ true → slice_index dumped.values place ≡ result_at p h s place
  pub left : (place value : ℕ) → is_dumped_in dumped place ≡ true → (result_at p h s place ≡ value → ⊥)
      → last_of dumped.left place value ≡ last_held p h s place value

-- ---- the law

-- a value may be told of a dump where its place last had it when enough flushes were finished
abbrev pub LastHeldMayBeTold : Type 0
LastHeldMayBeTold = (p : PlansData) (h : List Event) (s : ℕ) (dump : ℕ × ℕ) (value : ℕ)
    → is_from (flushes (take dump.0 (plan_of p s).actions)) (last_held p h s dump.1 value) ≡ true → MayDump p h s dump value

-- and nowhere else
abbrev pub ToldWasLastHeld : Type 0
ToldWasLastHeld = (p : PlansData) (h : List Event) (s : ℕ) (dump : ℕ × ℕ) (value : ℕ)
    → MayDump p h s dump value → is_from (flushes (take dump.0 (plan_of p s).actions)) (last_held p h s dump.1 value) ≡ true
