use Rattle.std.proofs.Common.{◌≡◌, ◌+◌, [], length, map}
use Rattle.script_lines.specs.Text.{words_of, lines_of}
use Rattle.gpu_plan.specs.Named.{names_in, AreLawfulNames}
use Rattle.gpu_plan.specs.Adding.{no_stream, streams}
use Rattle.gpu_plan.specs.Script.{from_body}
use Rattle.gpu_plan.specs.Mentioning.{mentioned_in}
use Rattle.gpu_plan.specs.Drafts.{shown}
use Rattle.gpu_plan.proofs.script.from_body.Given as goal

abbrev pub invariant-loop-line : goal.invariant-loop-line
invariant-loop-line l = record {
  said : from_body l.version (mentioned_in l.version [] (map words_of (lines_of l.fn.lines.rest.now))) l.number (shown l.draft) (map words_of (lines_of l.line-iterator.rest.now))
      ≡ from_body l.version (mentioned_in l.version [] (map words_of (lines_of l.fn.lines.rest.now))) l.first no_stream (map words_of (lines_of l.fn.lines.rest.now));
  mentioned : mentioned_in l.version l.mentioned (map words_of (lines_of l.line-iterator.rest.now)) ≡ mentioned_in l.version [] (map words_of (lines_of l.fn.lines.rest.now));
  numbers : l.number + length (lines_of l.line-iterator.rest.now) ≡ l.first + length (lines_of l.fn.lines.rest.now);
  named : AreLawfulNames l.version (names_in (streams (shown l.draft)));
}
