-- Answers that are ready to be written.
use Rattle.std.specs.Prelude.{◌≡◌, ℕ, List, [], ◌++◌, reverse}
use Rattle.journal_text.specs.Picture.{picture_text}
use Rattle.run_output.specs.Runs.{run_text}
use Rattle.script_answers.specs.declared.answer.Answer.{Answer}
use Rattle.script_answers.specs.declared.answer.Answer.TheVariants.{Found, Text, Ran, Right}
use Rattle.script_answers.specs.declared.status.Status.{Status}
use Rattle.script_answers.specs.declared.status.Status.TheVariants as status
use Rattle.verify_input.specs.declared.finding.Finding.{Finding}
use Rattle.verify_input.specs.declared.finding.Finding.TheVariants as finding
use Rattle.script_answers.specs.Says.{yes_line}
use Rattle.script_answers.specs.Runs.{run_ending}

-- how an answer ends
abbrev pub answer_ending : Answer → Status
answer_ending (Found ending) = ending
answer_ending (Text text) = status.Ok
answer_ending (Ran run) = run_ending (reverse run.report.past)
answer_ending (Right text) = status.Ok

-- the text that it writes
abbrev pub answer_text : Answer → List ℕ
answer_text (Found ending) = []
answer_text (Text text) = text.items
answer_text (Ran run) = run_text run
answer_text (Right text) = text

-- how the program ends by a finding, and what it writes then
abbrev pub TellsFinding : Finding → Status → List ℕ → Type 0
TellsFinding (finding.Refused line kind) ending text = (ending ≡ status.Refused line kind) × (text ≡ [])
TellsFinding (finding.NoJournal line) ending text = (ending ≡ status.NoJournal line) × (text ≡ [])
TellsFinding (finding.No event rule) ending text = (ending ≡ status.No event rule) × (text ≡ [])
TellsFinding (finding.Differs line what) ending text = (ending ≡ status.Differs line what) × (text ≡ [])
TellsFinding finding.NotComplete ending text = (ending ≡ status.NotComplete) × (text ≡ [])
TellsFinding (finding.Yes images events) ending text = (ending ≡ status.Ok) × (text ≡ yes_line events ++ picture_text images)
