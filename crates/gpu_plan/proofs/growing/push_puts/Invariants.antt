use Rattle.std.proofs.Common.{◌≡◌, ◌+◌, ◌≤◌, ◌++◌, length, map, take}
use Rattle.std.specs.Prelude.{vec_len, vec_capacity}
use Rattle.std.specs.List.{list_all}
use Rattle.script_lines.specs.Text.{words_of}
use Rattle.script_lines.specs.Numbers.{is_value, value_of}
use Rattle.gpu_plan.specs.Adding.{puts}
use Rattle.gpu_plan.proofs.growing.push_puts.Given as goal

abbrev pub invariant-loop-value : goal.invariant-loop-value
invariant-loop-value l = record {
  counted : l.at + length (words_of l.value-iterator.rest.now) ≡ l.place + length (words_of l.fn.values.rest.now);
  values : list_all is_value (words_of l.value-iterator.rest.now) ≡ list_all is_value (words_of l.fn.values.rest.now);
  below : l.at ≤ l.end;
  room : vec_len l.actions + l.end ≤ vec_capacity l.actions + l.at;
  added : l.actions.items ++ puts l.at (map value_of (words_of l.value-iterator.rest.now)) ≡ l.fn.actions.items ++ puts l.place (map value_of (words_of l.fn.values.rest.now));
  longer : length l.fn.actions.items ≤ length l.actions.items;
  behind : take (length l.fn.actions.items) l.actions.items ≡ l.fn.actions.items;
}
