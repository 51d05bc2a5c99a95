-- The output of a run, and what is made ready before any of it is written.
use Rattle.std.specs.Prelude.{◌≡◌, ℕ, ◌≤◌, List, ◌++◌, length, map, reverse, Vec}
use Rattle.std.specs.List.{All, concat}
use Rattle.std.specs.declared.alloc.Global.{Global}
use Rattle.wait_hooks.specs.Marks.{mark}
use Rattle.live_view.specs.declared.look.Look.{Look}
use Rattle.live_view.specs.declared.making.TheConstants.{MOST_VIEWERS}
use Rattle.gpu_journal.specs.declared.end.End.{End}
use Rattle.gpu_journal.specs.World.{replay}
use Rattle.gpu_journal.specs.Ended.{streams_of, end_of}
use Rattle.journal_text.specs.Text.{journal_text}
use Rattle.journal_text.specs.Picture.{picture_text}
use Rattle.journal_text.specs.Output.{head_lines, stream_lines, mark_lines, output}
use Rattle.gpu_house.specs.House.{ReportData}
use Rattle.run_output.specs.declared.output.Section.{Section}
use Rattle.run_output.specs.declared.output.Section.TheVariants.{Names, Journal, Images, Streams, Marks, Dumps, Looks}
use Rattle.run_output.specs.Parts.{LineHasRoom, dump_texts, view_texts}
use Rattle.gpu_plan.specs.declared.adding.TheConstants.{MOST_STREAMS}

-- a run, with the dumps that the client of each stream has read: action place, result place and value; and with the looks of each
-- viewer
pub record OutputData : Type 0 where
  pub report : ReportData
  pub dumps : List (List (ℕ × ℕ × ℕ))
  pub looks : List (Vec Look Global)

-- the text of a section
abbrev pub section_text : OutputData → Section → List ℕ
section_text run Names = head_lines run.report.plans
section_text run Journal = journal_text (reverse run.report.past)
section_text run Images = picture_text (replay run.report.plans run.report.past)
section_text run Streams = stream_lines run.report.plans run.report.past
section_text run Marks = mark_lines run.report.plans (mark run.report.base) run.report.past
section_text run Dumps = concat (dump_texts 1 run.dumps)
section_text run Looks = concat (view_texts 1 run.looks)

-- the lines of the dumps, and then those of the looks
abbrev pub behind_text : List (List (ℕ × ℕ × ℕ)) → List (Vec Look Global) → List ℕ
behind_text dumps looks = concat (dump_texts 1 dumps) ++ concat (view_texts 1 looks)

-- the output of a run, and the lines after it
abbrev pub run_text : OutputData → List ℕ
run_text run = output run.report.plans (mark run.report.base) run.report.past ++ behind_text run.dumps run.looks

-- the output of a run can be written: each event's line has room, the streams and the viewers are few, and how the streams
-- ended is known
pub record CanBeWritten (run : OutputData) (ends : List End) : Type 0 where
  pub room : All LineHasRoom (reverse run.report.past)
  pub few : length run.dumps ≤ MOST_STREAMS
  pub few_viewers : length run.looks ≤ MOST_VIEWERS
  pub ended : ends ≡ map (end_of run.report.past) (streams_of run.report.plans)
