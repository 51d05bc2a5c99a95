-- Laws of scripts, of the history that a script has on one thread, and of the output of histories.
use Rattle.std.specs.Prelude.{◌≡◌, ℕ, ◌≤◌, List, [], ◌∷◌, ◌++◌, length, true, take, IfOk, Some}
use Rattle.std.specs.List.{All, flat_map}
use Rattle.gpu_plan.specs.Plans.{PlansData, plan_of}
use Rattle.gpu_plan.specs.Passes.{flushes}
use Rattle.gpu_plan.specs.Script.{script_of}
use Rattle.sync_core.specs.declared.ending.Ending.{Ending}
use Rattle.sync_core.specs.Standing.{first_order, contains_number}
use Rattle.gpu_journal.specs.declared.event.Event.{Event}
use Rattle.gpu_journal.specs.declared.event.Event.TheVariants.{Finish}
use Rattle.gpu_journal.specs.World.{known}
use Rattle.gpu_journal.specs.Waits.{left_of, pending_in, endings_in}
use Rattle.gpu_journal.specs.Legal.{OfRun, RunsFirstNumber, RunsUnblocked, RunsReachedFlush, IsLegal}
use Rattle.gpu_journal.specs.Complete.{IsComplete}
use Rattle.gpu_journal.specs.Serial.{most_events, serial}
use Rattle.gpu_journal.specs.Written.{result_at}
use Rattle.gpu_journal.specs.Dumps.{MayDump}
use Rattle.journal_text.specs.Lines.{view_text}
use Rattle.journal_text.specs.Output.{output, AreDumpLines, dump_lines}
use Rattle.serial_laws.specs.Scripts.{AreLawfulPlans}
use Rattle.script_laws.specs.Kept.{HaveEnded, ArePendingOrEnded, HasNotEnded, HasCause}

-- ---- scripts

-- the plans of every script are lawful, which the laws of histories ask
abbrev pub ScriptsAreLawful : Type 0
ScriptsAreLawful = (text : List ℕ) → IfOk (script_of text) AreLawfulPlans

-- so the serial history of every script is legal
abbrev pub ScriptsRunLegally : Type 0
ScriptsRunLegally = (text : List ℕ) → IfOk (script_of text) (λ p. IsLegal p (serial p))

-- and complete
abbrev pub ScriptsRunToTheEnd : Type 0
ScriptsRunToTheEnd = (text : List ℕ) → IfOk (script_of text) (λ p. IsComplete p (serial p))

-- ---- dumps

-- the dump lines of a serial history may be told of its dumps: each value is that of its place after a first
-- part of the history in which at least as many flushes of its stream are finished as stand before the dump's action
abbrev pub DumpsMayBeTold : Type 0
DumpsMayBeTold = (p : PlansData) → AreLawfulPlans p → AreDumpLines p (serial p) (dump_lines p (serial p))

-- where enough flushes are finished after a first part, the value after every longer first part may be told too
abbrev pub LaterMayBeTold : Type 0
LaterMayBeTold = (p : PlansData) (later between past : List Event) (s : ℕ) (dump : ℕ × ℕ) → flushes (take dump.0 (plan_of p s).actions) ≤ (known p past s).finished
    → MayDump p (later ++ (between ++ past)) s dump (result_at p (between ++ past) s dump.1)

-- ---- waits

-- no step, finish or loss by an error of a stream comes while a kept wait of its first number is pending
abbrev pub NoneRunsWaiting : Type 0
NoneRunsWaiting = (p : PlansData) (g : List Event) (e : Event) → IsLegal p (e ∷ g)
    → OfRun (λ s. All (λ w. w.stream ≡ s → first_order (left_of p g s) ≡ Some w.order → ⊥) (pending_in p g)) e

-- when one comes, each kept wait of that number has exactly one ending
abbrev pub RunsAfterEndings : Type 0
RunsAfterEndings = (p : PlansData) (g : List Event) (e : Event) → IsLegal p (e ∷ g) → OfRun (λ s. (n : ℕ) → first_order (left_of p g s) ≡ Some n → HaveEnded p g s n) e

-- and so it stays once the number is finished
abbrev pub FinishedHaveEnded : Type 0
FinishedHaveEnded = (p : PlansData) (later g : List Event) (s n : ℕ) → IsLegal p (later ++ Finish s n ∷ g) → HaveEnded p (later ++ Finish s n ∷ g) s n

-- while a number is unprocessed none of its kept waits is forgotten: each is pending or has ended
abbrev pub NoneIsForgotten : Type 0
NoneIsForgotten = (p : PlansData) (h : List Event) (s n : ℕ) → contains_number n (left_of p h s) ≡ true → ArePendingOrEnded p h s n

-- and none is both
abbrev pub NoneIsBoth : Type 0
NoneIsBoth = (p : PlansData) (h : List Event) → All (HasNotEnded p h) (pending_in p h)

-- each ending has its event
abbrev pub EndingsHaveCauses : Type 0
EndingsHaveCauses = (p : PlansData) (h : List Event) → All (HasCause p h) (endings_in p h)

-- after a legal and complete history no wait is pending
abbrev pub CompleteWaitsForNone : Type 0
CompleteWaitsForNone = (p : PlansData) (h : List Event) → IsLegal p h → IsComplete p h → pending_in p h ≡ []

-- ---- outputs

-- legal histories with the same output are the same, whatever scripts they are of, and whatever marks their endings have
abbrev pub SameOutputIsSameHistory : Type 0
SameOutputIsSameHistory = (p q : PlansData) (mark other : Ending → ℕ) (g h : List Event) → AreLawfulPlans p → AreLawfulPlans q → IsLegal p g → IsLegal q h
    → output p mark g ≡ output q other h → g ≡ h

-- and so they are where their dumps are printed after it
abbrev pub SameRunIsSameHistory : Type 0
SameRunIsSameHistory = (p q : PlansData) (mark other : Ending → ℕ) (g h : List Event) → AreLawfulPlans p → AreLawfulPlans q → IsLegal p g → IsLegal q h
    → output p mark g ++ dump_lines p g ≡ output q other h ++ dump_lines q h → g ≡ h

-- the lines of looks, each with its viewer, its number of events and its sum
abbrev pub look_lines : List (ℕ × ℕ × ℕ) → List ℕ
look_lines looks = flat_map (λ look. view_text look.0 look.1 look.2) looks

-- and so they are where threads ran them: whatever may be told of their dumps, and whatever looks are printed after
abbrev pub SameThreadedRunIsSameHistory : Type 0
SameThreadedRunIsSameHistory = (p q : PlansData) (mark other : Ending → ℕ) (g h : List Event) (dumps more : List ℕ) (looks others : List (ℕ × ℕ × ℕ))
    → AreLawfulPlans p → AreLawfulPlans q → IsLegal p g → IsLegal q h → AreDumpLines p g dumps → AreDumpLines q h more
    → output p mark g ++ (dumps ++ look_lines looks) ≡ output q other h ++ (more ++ look_lines others) → g ≡ h

-- ---- the number of events

-- a serial history has no more events than this
abbrev pub SerialIsShort : Type 0
SerialIsShort = (p : PlansData) → length (serial p) ≤ most_events p

-- ---- rule 6

-- after a legal history an event that obeys rules 4 and 5 obeys rule 6
abbrev pub SixAlwaysHolds : Type 0
SixAlwaysHolds = (p : PlansData) (g : List Event) (e : Event) → AreLawfulPlans p → IsLegal p g → RunsFirstNumber p g e → RunsUnblocked p g e → RunsReachedFlush p g e
