-- What each command says of an input: how it ends, and the text that it writes.
use Rattle.std.specs.Prelude.{◌≡◌, ℕ, ◌≤◌, Bool, true, false, List, [], ◌++◌, length, Option, Some, option_map, Result, Ok, Err, codes, decimal}
use Rattle.std.specs.List.{concat}
use Rattle.script_lines.specs.declared.fault.Kind.{Kind}
use Rattle.script_generator.specs.Generator.{generated}
use Rattle.gpu_store.specs.Images.{Pictures}
use Rattle.gpu_plan.specs.Plans.{PlansData}
use Rattle.gpu_plan.specs.Script.{script_of}
use Rattle.gpu_plan.specs.declared.script.TheConstants.{MOST_BYTES}
use Rattle.gpu_journal.specs.World.{replay}
use Rattle.journal_text.specs.Picture.{picture_text}
use Rattle.verify_input.specs.Found.{script_in, IsRight, Finds}
use Rattle.verify_input.specs.Whole.{output_part, FindsWhole}
use Rattle.verify_input.specs.declared.rest.TheConstants.{MOST_WHOLE_BYTES}
use Rattle.verify_input.specs.declared.finding.Finding.{Finding}
use Rattle.verify_input.specs.declared.finding.Finding.TheVariants as finding
use Rattle.script_answers.specs.declared.command.Command.{Command}
use Rattle.script_answers.specs.declared.command.Command.TheVariants.{Run, RunOnThreads, Check, Generate, Trial, Verify, VerifyWhole}
use Rattle.script_answers.specs.declared.status.Status.{Status}
use Rattle.script_answers.specs.declared.status.Status.TheVariants as status
use Rattle.script_answers.specs.Counts.{check_text}
use Rattle.script_answers.specs.Runs.{IsSerialRun, IsViewedRun, IsOutput, IsTrial}
use Rattle.live_view.specs.declared.making.TheConstants.{MOST_VIEWERS}

-- the command reads its source
abbrev pub reads : Option Command → Bool
reads (Some Run) = true
reads (Some (RunOnThreads workers views)) = true
reads (Some Check) = true
reads (Some Verify) = true
reads (Some VerifyWhole) = true
reads _ = false

-- the most bytes that its input may have
abbrev pub most_bytes : Option Command → ℕ
most_bytes (Some VerifyWhole) = MOST_WHOLE_BYTES
most_bytes _ = MOST_BYTES

-- what an input says as a script: with `verify` what stands before the line `journal`, and else all of it
abbrev pub script_by : Command → List ℕ → Result PlansData (ℕ × Kind)
script_by Verify input = script_in input
script_by VerifyWhole input = script_in input
script_by command input = script_of input

-- the line of a right journal
abbrev pub yes_line : ℕ → List ℕ
yes_line events = codes "yes events " ++ decimal events ++ codes "\n"

-- the bytes after `journal`
abbrev pub output_in : List ℕ → Option (List ℕ)
output_in input = option_map concat (output_part input)

-- the input has the output of a run on threads of its script; the text is of its history
pub record IsJudgedWhole (base : ℕ) (input text : List ℕ) : Type 0 where
  pub plans : PlansData
  pub script : script_in input ≡ Ok plans
  pub written : List ℕ
  pub there : output_in input ≡ Some written
  pub viewers : ℕ
  pub few : viewers ≤ MOST_VIEWERS
  pub ended : Status
  pub ran : IsOutput (IsViewedRun viewers) plans base ended written
  pub told : text ≡ yes_line (length ran.history) ++ picture_text (replay plans ran.history)

-- the text of a right journal: its line, and the images that it leaves
abbrev pub IsYesText : List ℕ → List ℕ → Type 0
IsYesText input text =
    (images : Pictures) × (events : ℕ) × IsRight input images events × (text ≡ yes_line events ++ picture_text images)

-- a command that ends so writes this text of an input, with the marks of a run over a base; the run goes by the rule of one
-- thread, or by that of threads with a given number of viewers
abbrev pub WritesText : Command → ℕ → List ℕ → Status → List ℕ → Type 0
WritesText Run base input ending text =
    (p : PlansData) × (script_of input ≡ Ok p) × IsOutput IsSerialRun p base ending text
WritesText (RunOnThreads workers views) base input ending text =
    (p : PlansData) × (script_of input ≡ Ok p) × IsOutput (IsViewedRun views) p base ending text
WritesText Check base input ending text =
    (p : PlansData) × (script_of input ≡ Ok p) × (ending ≡ status.Ok) × (text ≡ check_text p)
WritesText (Generate size seed) base input ending text = (ending ≡ status.Ok) × (text ≡ generated size seed)
WritesText (Trial size seed) base input ending text = (ending ≡ status.Ok) × IsTrial size seed text
WritesText VerifyWhole base input ending text = (ending ≡ status.Ok) × IsJudgedWhole base input text
WritesText Verify base input ending text = (ending ≡ status.Ok) × IsYesText input text

-- this is found
abbrev pub HasFinding : Command → ℕ → List ℕ → Finding → Type 0
HasFinding Verify base input found = Finds input found
HasFinding VerifyWhole base input found = FindsWhole base input found
HasFinding command base input found = ⊥

-- a command ends so on an input, and writes this text
abbrev pub Says : Command → ℕ → List ℕ → Status → List ℕ → Type 0
Says command base input status.Ok text = WritesText command base input status.Ok text
Says command base input status.SomeLost text = WritesText command base input status.SomeLost text
Says command base input status.MemoryLost text = WritesText command base input status.MemoryLost text
Says command base input (status.Refused line kind) text =
    (reads (Some command) ≡ true) × (script_by command input ≡ Err (line, kind)) × (text ≡ [])
Says command base input (status.No event rule) text = HasFinding command base input (finding.No event rule) × (text ≡ [])
Says command base input (status.Differs line what) text = HasFinding command base input (finding.Differs line what) × (text ≡ [])
Says command base input status.NotComplete text = HasFinding command base input finding.NotComplete × (text ≡ [])
Says command base input (status.NoJournal line) text = HasFinding command base input (finding.NoJournal line) × (text ≡ [])
Says command base input _ text = ⊥
