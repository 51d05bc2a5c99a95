-- What follows from laws of runs, and from the theorem, for runs and inputs that are given.
use Rattle.std.proofs.Common.{◌≡◌, ℕ, ◌+◌, ◌<◌, ◌^◌, ◌⊎◌, inl, inr, ⊎_elim, List, [], ◌++◌, Some, Ok, Err, refl, sym, ap, ◌∙◌, arith}
use Rattle.std.specs.Prelude.{Result, length, sum_by}
use Rattle.gpu_io.specs.Faults.{HasRisen}
use Rattle.script_lines.specs.Text.{lines_of}
use Rattle.script_lines.specs.declared.fault.Kind.{Kind}
use Rattle.script_lines.specs.declared.fault.Kind.TheVariants.{Head}
use Rattle.gpu_store.specs.Images.{Pictures}
use Rattle.gpu_plan.specs.Plans.{PlansData}
use Rattle.gpu_plan.specs.Script.{script_of, from_head}
use Rattle.wait_hooks.specs.Marks.{mark}
use Rattle.gpu_journal.specs.declared.event.Event.{Event}
use Rattle.gpu_journal.specs.World.{state_of}
use Rattle.gpu_journal.specs.Legal.{IsLegal}
use Rattle.gpu_journal.specs.Past.{event_words}
use Rattle.journal_text.specs.Output.{output}
use Rattle.serial_laws.specs.Scripts.{AreLawfulPlans}
use Rattle.verify_input.specs.Parts.{script_part, journal_part}
use Rattle.verify_input.specs.Found.{script_in}
use Rattle.verify_input.specs.Whole.{IsRightWhole}
use Rattle.script_answers.specs.declared.command.Command.TheVariants.{Check}
use Rattle.script_answers.specs.declared.status.Status.{Status}
use Rattle.script_answers.specs.declared.status.Status.TheVariants as status
use Rattle.script_answers.specs.Runs.{IsSerialRun, IsViewedRun, IsOutput}
use Rattle.script_answers.specs.Says.{Says, output_in, IsJudgedWhole, IsYesText}
use Rattle.script_answers.specs.Conducts.{Edges, Conducts}
use Rattle.script_answers.specs.Laws.{SameViewedRunIsSameHistory, RunIsJudgedWhole, WholeYesIsYes, WordsAreFew}
use Rattle.script_answers.specs.Limits.{LimitsHaveTheirValues}
use Rattle.gpu_cmd.specs.declared.facts.TheConstants.{MOST_FETCHED}
use Rattle.journal_text.specs.declared.sheet.TheConstants.{MOST_EVENT_WORDS}
use Rattle.live_view.specs.declared.making.TheConstants.{MOST_VIEWERS}

-- a run without viewers and one with four that print the same have the same history
same_seen : SameViewedRunIsSameHistory → (p : PlansData) (base : ℕ) (g h : List Event) (x : List ℕ) → AreLawfulPlans p
    → IsViewedRun 0 p g x → IsViewedRun 4 p h x → output p (mark base) g ++ x ≡ output p (mark base) h ++ x → g ≡ h
same_seen law p base g h x lawful none four same = law p p 0 4 base base g h x x lawful lawful none four same

-- nor does the history hang on the scripts, on how many viewers look, on the marks, or on what is printed after it: all that it says
-- of a stream is the same
same_states : SameViewedRunIsSameHistory → (p q : PlansData) (viewers others base other : ℕ) (g h : List Event) (x y : List ℕ) (s : ℕ) → AreLawfulPlans p → AreLawfulPlans q
    → IsViewedRun viewers p g x → IsViewedRun others q h y → output p (mark base) g ++ x ≡ output q (mark other) h ++ y → state_of p g s ≡ state_of p h s
same_states law p q viewers others base other g h x y s lawful also one two same = ap (λ (past : List Event). state_of p past s) (law p q viewers others base other g h x y lawful also one two same)

-- what a run on one thread prints is found to be right after its script
serial_right : RunIsJudgedWhole → (p : PlansData) (base : ℕ) (ending : Status) (input written : List ℕ) → script_in input ≡ Ok p → output_in input ≡ Some written → IsOutput IsSerialRun p base ending written
    → (images : Pictures) × (events : ℕ) × IsRightWhole input base images events
serial_right law p base ending input written script there out = law p 0 base ending input written script there (omega arith) (inr out)

-- and so is what a run on threads prints, with as many viewers as there may be
viewed_right : RunIsJudgedWhole → (p : PlansData) (base : ℕ) (ending : Status) (input written : List ℕ) → script_in input ≡ Ok p → output_in input ≡ Some written → IsOutput (IsViewedRun MOST_VIEWERS) p base ending written
    → (images : Pictures) × (events : ℕ) × IsRightWhole input base images events
viewed_right law p base ending input written script there out = law p MOST_VIEWERS base ending input written script there (omega arith) (inl out)

-- where the whole output of an input is right, so is the journal of one that lacks the lines after it
right_without : WholeYesIsYes → (base : ℕ) (input short text : List ℕ) → script_part short ≡ script_part input → journal_part short ≡ journal_part input → IsJudgedWhole base input text → IsYesText short text
right_without law base input short text script journal whole = (law base input short text script journal (refl, whole)).1

-- 32 bits count the words of all events
words_fit : WordsAreFew → (p : PlansData) (h : List Event) → AreLawfulPlans p → IsLegal p h → sum_by (λ e. length (event_words e)) h < 2 ^ 32
words_fit law p h lawful legal = let few = law p h lawful legal in omega (arith, few)

-- as many words may be fetched for one stream, with those of its loss
most_words : LimitsHaveTheirValues → MOST_FETCHED + MOST_EVENT_WORDS ≡ 1118208
most_words law = let quota = law.words.fetched in let loss = law.words.event in omega (arith, quota, loss)

-- an empty input has no head line
no_head : script_of [] ≡ Err (1, Head)
unfolding script_of from_head lines_of
no_head = refl

-- how `check` ends by the meaning of a script
ending_of : Result PlansData (ℕ × Kind) → Status
ending_of (Ok p) = status.Ok
ending_of (Err fault) = status.Refused fault.0 fault.1

-- so `check` says of an empty input that it is refused there
said_of_nothing : (base : ℕ) (ending : Status) (text : List ℕ) → Says Check base [] ending text → ending ≡ status.Refused 1 Head
unfolding ending_of
said_of_nothing base status.Ok text said = let none = no_head in let some = said.1 in absurd (cc)
said_of_nothing base status.SomeLost text said = let none = no_head in let some = said.1 in absurd (cc)
said_of_nothing base status.MemoryLost text said = let none = no_head in let some = said.1 in absurd (cc)
said_of_nothing base status.Usage text said = absurd said
said_of_nothing base status.ReadFault text said = absurd said
said_of_nothing base status.WriteFault text said = absurd said
said_of_nothing base (status.Refused line kind) text said = ap ending_of (sym said.1 ∙ no_head)
said_of_nothing base status.NoMemory text said = absurd said
said_of_nothing base status.TooLong text said = absurd said
said_of_nothing base (status.No event rule) text said = absurd said.0
said_of_nothing base (status.Differs line what) text said = absurd said.0
said_of_nothing base status.NotComplete text said = absurd said.0
said_of_nothing base (status.NoJournal line) text said = absurd said.0

-- where nothing fails, `check` of an empty input ends so, or for want of memory
nothing_is_refused : {S K : Type 0} (edges : Edges S K) (base : ℕ) (source source_then : S) (sink sink_then : K) (ending : Status) → edges.left source ≡ Some []
    → ¬ HasRisen (edges.read_faults source) (edges.read_faults source_then) → ¬ HasRisen (edges.write_faults sink) (edges.write_faults sink_then)
    → Conducts edges (Some Check) base source source_then sink sink_then ending → (ending ≡ status.Refused 1 Head) ⊎ (ending ≡ status.NoMemory)
nothing_is_refused edges base source source_then sink sink_then ending empty read wrote conducts =
    ⊎_elim (λ said. inl (said_of_nothing base ending said.1 said.2)) (⊎_elim (λ long. absurd (omega (arith, long.1))) inr) (conducts.complete Check [] refl empty read wrote)
