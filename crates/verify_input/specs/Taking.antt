-- How lines that are due are taken off what is left of an output.
use Rattle.std.specs.Prelude.{◌≡◌, ◌≢◌, ℕ, ◌+◌, ◌≤◌, ◌<◌, ◌^◌, ◌==◌, if◌then◌else◌, Bool, true, false, map, List, length, Result, OnOk, IfErr}
use Rattle.gpu_plan.specs.Plans.{PlansData}
use Rattle.gpu_journal.specs.declared.event.Event.{Event}
use Rattle.gpu_journal.specs.declared.end.End.{End}
use Rattle.gpu_journal.specs.declared.end.End.TheVariants as end
use Rattle.gpu_journal.specs.Ended.{streams_of, end_of}
use Rattle.journal_verify.specs.Answers.{IsWholeHistory}
use Rattle.journal_verify.specs.Followed.{IsFollowed, sum_after}
use Rattle.verify_input.specs.Reading.{whole_lines}
use Rattle.verify_input.specs.Due.{Due, AreTakenOff, IsOff, AreDue, IsFirstOff}
use Rattle.verify_input.specs.declared.what.What.{What}
use Rattle.verify_input.specs.declared.what.What.TheVariants.{Missing, More}
use Rattle.verify_input.specs.declared.sections.History.{History}
use Rattle.verify_input.specs.declared.rest.Rest.{Rest}
use Rattle.verify_input.specs.declared.rest.Bad.{Bad}
use Rattle.verify_input.specs.declared.rest.Bad.TheVariants.{Off, Memory}

-- this is off where the text goes on otherwise, or the line is missing
abbrev pub off_of : Rest → What → Bad
off_of rest what = Off rest.line (if length rest.text.now == 0 then Missing else what)

-- these lines were taken, after a look of so many events, and the last look of them is of so many
pub record HasTaken (p : PlansData) (h : List Event) (dues : List Due) (least : ℕ) (old new : Rest) (last : ℕ) : Type 0 where
  pub taken : AreTakenOff p h dues least (whole_lines old.text.now) last (whole_lines new.text.now)
  pub number : new.line ≡ old.line + length dues

-- where a line is told, it is the first that is off, and not one too many
pub record IsBad (p : PlansData) (h : List Event) (dues : List Due) (least : ℕ) (old : Rest) (bad : Bad) : Type 0 where
  pub off : (line : ℕ) (what : What) → bad ≡ Off line what → (k : ℕ) × (line ≡ old.line + k) × IsOff p h dues least (whole_lines old.text.now) k what × (what ≢ More)

-- the lines that are due were taken, or the first that is off was told
pub record Judges {T : Type 0} (p : PlansData) (h : List Event) (dues : List Due) (old new : Rest) (result : Result T Bad) : Type 0 where
  pub ok : OnOk result (HasTaken p h dues 0 old new 0)
  pub err : IfErr result (IsBad p h dues 0 old)

-- the events, the newest first
abbrev pub past_of : History → List Event
past_of history = history.journal.now.events

-- what is kept is what the events leave, which are a legal and complete history of the plans
pub record IsHistory (history : History) : Type 0 where
  pub whole : IsWholeHistory history.plans.now (past_of history)
  pub followed : IsFollowed history.plans.now (past_of history) history.followed.now
  pub ends : history.ends.now ≡ map (end_of (past_of history)) (streams_of history.plans.now)
  pub few : length history.journal.now.events < 2 ^ 32

-- a look of so many events, at least a given number and at most all, has this sum
pub record IsLook (p : PlansData) (h : List Event) (least : ℕ) (look : ℕ × ℕ) : Type 0 where
  pub from : least ≤ look.0
  pub few : look.0 ≤ length h
  pub sum : look.1 ≡ sum_after p h look.0

-- a stream that ended so was lost
abbrev pub is_lost : End → Bool
is_lost end.Done = false
is_lost (end.Lost why) = true
is_lost end.Closed = false

-- this line is the first that is off or more
abbrev pub IsFirstBadOf : PlansData → List Event → List Due → Rest → Bad → Type 0
IsFirstBadOf p h dues old (Off line what) = (k : ℕ) × (line ≡ old.line + k) × IsFirstOff p h dues (whole_lines old.text.now) k what
IsFirstBadOf p h dues old (Memory refusal) = Unit {0}

-- all lines that are left are those that are due, or the first that is off or more was told
pub record JudgesAll {T : Type 0} (p : PlansData) (h : List Event) (dues : List Due) (old : Rest) (result : Result T Bad) : Type 0 where
  pub ok : OnOk result (AreDue p h dues (whole_lines old.text.now))
  pub err : IfErr result (IsFirstBadOf p h dues old)
