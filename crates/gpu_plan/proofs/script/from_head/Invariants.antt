use Rattle.std.proofs.Common.{◌≡◌, ◌+◌, length, map}
use Rattle.script_lines.specs.Text.{words_of, lines_of}
use Rattle.gpu_plan.specs.Script.{from_head}
use Rattle.gpu_plan.proofs.script.from_head.Given as goal

abbrev pub invariant-loop-line : goal.invariant-loop-line
invariant-loop-line l = record {
  said : from_head l.number (map words_of (lines_of l.lines.rest.now)) ≡ from_head 1 (map words_of (lines_of l.fn.text.rest.now));
  numbers : l.number + length (lines_of l.lines.rest.now) ≡ 1 + length (lines_of l.fn.text.rest.now);
}

abbrev pub decreases-loop-line : goal.decreases-loop-line
decreases-loop-line l = length (lines_of l.lines.rest.now)
