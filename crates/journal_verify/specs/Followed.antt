-- What a legal history leaves, as it is kept for the judge of a whole output.
use Rattle.std.specs.Prelude.{◌≡◌, ◌⊎◌, ℕ, zero, suc, ◌-◌, ◌≤◌, Bool, false, List, length, Contains, Option, None, Some, drop, slice_get, slice_set}
use Rattle.std.specs.List.{All}
use Rattle.gpu_store.specs.Sums.{texel_sum}
use Rattle.gpu_plan.specs.Plans.{PlansData, plan_of}
use Rattle.stream_state.specs.declared.effect.Effect.{Effect}
use Rattle.stream_state.specs.declared.effect.Effect.TheVariants.{Results}
use Rattle.stream_state.specs.Writes.{Writes}
use Rattle.stream_state.specs.Steps.{writes}
use Rattle.sync_core.specs.Standing.{IsKnown}
use Rattle.gpu_journal.specs.declared.event.Event.{Event}
use Rattle.gpu_journal.specs.declared.event.Event.TheVariants.{Step}
use Rattle.gpu_journal.specs.World.{replay}
use Rattle.journal_verify.specs.Dumped.{DumpedData, last_with, is_from, IsUntouched, HasTakenUp, HoldsDumped}
use Rattle.journal_verify.specs.Entered.{HasEntered}
use Rattle.journal_verify.specs.Faults.{finished_in, kept_state}
use Rattle.journal_verify.specs.Follows.{Follows}
use Rattle.journal_verify.specs.Kept.{JudgeData}

-- the record that the events were judged by, the dumped places of each stream, and sums with their numbers of events
pub record FollowedData : Type 0 where
  pub judge : JudgeData
  pub dumped : List DumpedData
  pub sums : List (ℕ × ℕ)

-- ---- what is asked of it

-- the record of the dumped places of stream s
abbrev pub dumped_of : List DumpedData → ℕ → Option DumpedData
dumped_of all zero = None
dumped_of all (suc k) = slice_get all k

-- by the dumped places of a stream of which so many flushes are finished, a place had a value at some moment when at least a
-- given number of them was finished
abbrev pub told_by : Option DumpedData → ℕ → ℕ → ℕ → ℕ → Bool
told_by None finished place least value = false
told_by (Some own) finished place least value = is_from least (last_with own finished place value)

-- the same of stream s
abbrev pub may_be_told : FollowedData → ℕ → ℕ → ℕ → ℕ → Bool
may_be_told followed s place least value = told_by (dumped_of followed.dumped s) (finished_in followed.judge s) place least value

-- this sum is noted
abbrev pub IsSumIn : FollowedData → ℕ × ℕ → Type 0
IsSumIn followed sum = Contains followed.sums sum

-- ---- before any event

-- nothing is written to the results of any stream
pub record AreUntouched (p : PlansData) (all : List DumpedData) : Type 0 where
  pub count : length all ≡ length p.plans
  pub each : (k : ℕ) (dumped : DumpedData) → slice_get all k ≡ Some dumped → IsUntouched (plan_of p (suc k)) dumped

-- ---- an event

-- stream s wrote these to results while so many of its flushes were finished as are now
pub record HasWrittenResults (s : ℕ) (written : Writes) (judge : JudgeData) (old new : List DumpedData) : Type 0 where
  pub known : IsKnown (length old) s
  pub was : DumpedData
  pub now : DumpedData
  pub there : slice_get old (s - 1) ≡ Some was
  pub taken : HasTakenUp written (finished_in judge s) was now
  pub put : new ≡ slice_set old (s - 1) now

-- what an effect says is written is taken up, and nothing else
abbrev pub HasHeard : ℕ → Effect → JudgeData → List DumpedData → List DumpedData → Type 0
HasHeard s (Results written) judge old new = HasWrittenResults s written judge old new
HasHeard s _ judge old new = new ≡ old

-- the dumped places after an event: those of the stream of a step take up what it writes, and no others change
abbrev pub HasDumped : PlansData → Event → JudgeData → List DumpedData → List DumpedData → Type 0
HasDumped p (Step s words) judge old new = HasWrittenResults s (writes (plan_of p s).areas words (kept_state judge s)) judge old new
HasDumped p e judge old new = new ≡ old

-- an event that obeys all rules is taken up
pub record HasFollowed (p : PlansData) (e : Event) (old new : FollowedData) : Type 0 where
  pub entered : HasEntered p e old.judge new.judge
  pub dumped : HasDumped p e old.judge old.dumped new.dumped
  pub sums : new.sums ≡ old.sums

-- the sum of all texels of the images is noted after this number of events, or was before
pub record NotesSum (events : ℕ) (old new : FollowedData) : Type 0 where
  pub judge : new.judge ≡ old.judge
  pub dumped : new.dumped ≡ old.dumped
  pub sums : (x : ℕ × ℕ) → Contains new.sums x → Contains old.sums x ⊎ (x ≡ (events, texel_sum old.judge.images))

-- ---- by the history

-- the sum of all texels after a number of first events
abbrev pub sum_after : PlansData → List Event → ℕ → ℕ
sum_after p h count = texel_sum (replay p (drop (length h - count) h))

-- a number of events with the sum of all texels after them
pub record IsSum (p : PlansData) (h : List Event) (sum : ℕ × ℕ) : Type 0 where
  pub few : sum.0 ≤ length h
  pub is : sum.1 ≡ sum_after p h sum.0

-- the record of each stream's dumped places is what the history says of them
pub record AreDumped (p : PlansData) (h : List Event) (all : List DumpedData) : Type 0 where
  pub count : length all ≡ length p.plans
  pub each : (k : ℕ) (dumped : DumpedData) → slice_get all k ≡ Some dumped → HoldsDumped p h (suc k) dumped

-- all of it is what the history says
pub record IsFollowed (p : PlansData) (h : List Event) (followed : FollowedData) : Type 0 where
  pub follows : Follows p h followed.judge
  pub dumped : AreDumped p h followed.dumped
  pub sums : All (IsSum p h) followed.sums
