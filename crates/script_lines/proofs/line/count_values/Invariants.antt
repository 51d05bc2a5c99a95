use Rattle.std.proofs.Common.{◌≡◌, ◌+◌, length}
use Rattle.std.specs.List.{list_all}
use Rattle.script_lines.specs.Text.{words_of}
use Rattle.script_lines.specs.Numbers.{is_value}
use Rattle.script_lines.proofs.line.count_values.Given as goal

abbrev pub invariant-loop-value : goal.invariant-loop-value
invariant-loop-value l = record {
  values : list_all is_value (words_of l.value-iterator.rest.now) ≡ list_all is_value (words_of l.fn.values.rest.now);
  counted : l.count + length (words_of l.value-iterator.rest.now) ≡ length (words_of l.fn.values.rest.now);
}
