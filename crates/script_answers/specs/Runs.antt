-- Runs of scripts: their histories, what is written of them, and how they end.
use Rattle.std.specs.Prelude.{◌≡◌, ℕ, ◌+◌, Bool, true, false, List, [], ◌∷◌, ◌++◌, length, reverse, if◌then◌else◌, Ok}
use Rattle.std.specs.List.{All, flat_map, list_any}
use Rattle.script_generator.specs.Generator.{generated}
use Rattle.gpu_plan.specs.Plans.{PlansData}
use Rattle.gpu_plan.specs.Script.{script_of}
use Rattle.wait_hooks.specs.Marks.{mark}
use Rattle.gpu_journal.specs.declared.event.Event.{Event}
use Rattle.gpu_journal.specs.declared.event.Event.TheVariants.{Lost}
use Rattle.gpu_journal.specs.declared.event.Why.TheVariants.{Error}
use Rattle.gpu_journal.specs.Legal.{IsLegal}
use Rattle.gpu_journal.specs.Complete.{IsComplete}
use Rattle.gpu_journal.specs.Serial.{serial}
use Rattle.journal_text.specs.Output.{output, dump_lines, AreDumpLines}
use Rattle.serial_laws.specs.Going.{is_memory_loss}
use Rattle.script_laws.specs.Trials.{trial_text}
use Rattle.live_view.specs.declared.look.Look.{Look}
use Rattle.gpu_hall.specs.Looks.{AreViewerLooks}
use Rattle.run_output.specs.Parts.{look_text}
use Rattle.script_answers.specs.declared.status.Status.{Status}
use Rattle.script_answers.specs.declared.status.Status.TheVariants as status

-- a rule of runs: to which histories these plans may be run, and which lines may stand after the output then
abbrev pub RunRule : Type 1
RunRule = PlansData → List Event → List ℕ → Type 0

-- the event is a loss by an error
abbrev pub is_error_loss : Event → Bool
is_error_loss (Lost s (Error error) words) = true
is_error_loss _ = false

-- how a run ends that prints these events: whether a stream is lost as out of memory, or else by an error
abbrev pub run_ending : List Event → Status
run_ending events =
    if list_any is_memory_loss events then status.MemoryLost
    else (if list_any is_error_loss events then status.SomeLost else status.Ok)

-- the rule of threads:
-- - the history is any that is legal and complete
-- - the lines are those of the dumps, each of a prefix with at least as many finishes of its stream as flushes before it
-- - a run that does not end as one that lost a stream as out of memory lost none so
pub record IsRun (p : PlansData) (history : List Event) (dumps : List ℕ) : Type 0 where
  pub legal : IsLegal p history
  pub complete : IsComplete p history
  pub dumped : AreDumpLines p history dumps
  pub kept : (run_ending (reverse history) ≡ status.MemoryLost → ⊥) → All (λ event. is_memory_loss event ≡ false) history

-- the lines of the looks of each viewer, counted from viewer v on
abbrev pub view_lines : ℕ → List (List Look) → List ℕ
view_lines v [] = []
view_lines v (looks ∷ more) = flat_map (look_text v) looks ++ view_lines (v + 1) more

-- these are lines of looks: 17 for each viewer, in order
pub record AreViewLines (p : PlansData) (history : List Event) (viewers : ℕ) (lines : List ℕ) : Type 0 where
  pub looks : List (List Look)
  pub many : length looks ≡ viewers
  pub each : All (AreViewerLooks p history) looks
  pub are : lines ≡ view_lines 1 looks

-- the rule of threads with viewers: it is such a run, and after the lines of its dumps come those of looks
pub record IsViewedRun (viewers : ℕ) (p : PlansData) (history : List Event) (behind : List ℕ) : Type 0 where
  pub dumps : List ℕ
  pub views : List ℕ
  pub run : IsRun p history dumps
  pub seen : AreViewLines p history viewers views
  pub are : behind ≡ dumps ++ views

-- the rule of one thread: it is such a run, its history is the serial one, which loses no stream as out of memory, and
-- so are the dumps
pub record IsSerialRun (p : PlansData) (history : List Event) (dumps : List ℕ) : Type 0 where
  pub run : IsRun p history dumps
  pub played : history ≡ serial p
  pub kept : All (λ event. is_memory_loss event ≡ false) history
  pub read : dumps ≡ dump_lines p history

-- the text is the output of a run of these plans by a rule, with its marks over a base, and the lines after it
pub record IsOutput (Ran : RunRule) (p : PlansData) (base : ℕ) (ending : Status) (text : List ℕ) : Type 0 where
  pub history : List Event
  pub behind : List ℕ
  pub ran : Ran p history behind
  pub ends : ending ≡ run_ending (reverse history)
  pub told : text ≡ output p (mark base) history ++ behind

-- the text is the line of a trial: its generated script says these plans, which were run on one thread
pub record IsTrial (size seed : ℕ) (text : List ℕ) : Type 0 where
  pub plans : PlansData
  pub script : script_of (generated size seed) ≡ Ok plans
  pub run : IsSerialRun plans (serial plans) (dump_lines plans (serial plans))
  pub told : text ≡ trial_text size seed plans (serial plans)
