-- Laws of runs.
use Rattle.std.specs.Prelude.{◌≡◌, ℕ, ◌≤◌, ◌⊎◌, List, ◌++◌, Ok, Some, length, sum_by}
use Rattle.gpu_store.specs.Images.{Pictures}
use Rattle.gpu_plan.specs.Plans.{PlansData}
use Rattle.wait_hooks.specs.Marks.{mark}
use Rattle.gpu_journal.specs.declared.event.Event.{Event}
use Rattle.gpu_journal.specs.Legal.{IsLegal}
use Rattle.gpu_journal.specs.Past.{event_words}
use Rattle.journal_text.specs.Output.{output}
use Rattle.serial_laws.specs.Scripts.{AreLawfulPlans}
use Rattle.verify_input.specs.Parts.{script_part, journal_part}
use Rattle.verify_input.specs.Found.{script_in}
use Rattle.verify_input.specs.Whole.{FindsWhole}
use Rattle.verify_input.specs.declared.finding.Finding.TheVariants.{Yes}
use Rattle.script_answers.specs.declared.command.Command.TheVariants.{Verify, VerifyWhole}
use Rattle.script_answers.specs.declared.status.Status.{Status}
use Rattle.script_answers.specs.declared.status.Status.TheVariants as status
use Rattle.script_answers.specs.Runs.{IsViewedRun, IsSerialRun, IsOutput}
use Rattle.script_answers.specs.Says.{output_in, Says}
use Rattle.live_view.specs.declared.making.TheConstants.{MOST_VIEWERS}

-- runs on threads that print the same have the same history, whatever scripts they are of, and however many viewers they have
abbrev pub SameViewedRunIsSameHistory : Type 0
SameViewedRunIsSameHistory = (p q : PlansData) (viewers others base other : ℕ) (g h : List Event) (x y : List ℕ) → AreLawfulPlans p → AreLawfulPlans q
    → IsViewedRun viewers p g x → IsViewedRun others q h y → output p (mark base) g ++ x ≡ output q (mark other) h ++ y → g ≡ h

-- what `run` writes of a script on one thread or on threads, `verify --whole` finds to be right after that script
abbrev pub RunIsJudgedWhole : Type 0
RunIsJudgedWhole = (p : PlansData) (viewers base : ℕ) (ending : Status) (input written : List ℕ) → script_in input ≡ Ok p → output_in input ≡ Some written → viewers ≤ MOST_VIEWERS
    → IsOutput (IsViewedRun viewers) p base ending written ⊎ IsOutput IsSerialRun p base ending written
    → (images : Pictures) × (events : ℕ) × FindsWhole base input (Yes images events)

-- a yes of `verify --whole` is a yes of `verify`, with the same text: on this input, and on each other one with the same script
-- and the same journal
abbrev pub WholeYesIsYes : Type 0
WholeYesIsYes = (base : ℕ) (input short text : List ℕ) → script_part short ≡ script_part input → journal_part short ≡ journal_part input
    → Says VerifyWhole base input status.Ok text → Says Verify base short status.Ok text

-- all events of a legal history have at most this many words: of each of 16 streams, those that it may fetch, and those of
-- one loss
abbrev pub WordsAreFew : Type 0
WordsAreFew = (p : PlansData) (h : List Event) → AreLawfulPlans p → IsLegal p h → sum_by (λ e. length (event_words e)) h ≤ 17891328
