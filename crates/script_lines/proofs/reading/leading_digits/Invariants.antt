use Rattle.std.proofs.Common.{◌≡◌, true, take}
use Rattle.std.specs.Char.{is_digit}
use Rattle.std.specs.List.{list_all}
use Rattle.std.specs.Str.Parse.{digits_value}
use Rattle.script_lines.proofs.reading.leading_digits.Given as goal

abbrev pub invariant-loop-count : goal.invariant-loop-count
invariant-loop-count l = record {
  digits : list_all (λ c. is_digit c l.radix) (take l.count l.bytes) ≡ true;
  value : l.value ≡ digits_value l.radix (take l.count l.bytes);
}
