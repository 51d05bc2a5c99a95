use Rattle.std.proofs.Common.{◌≡◌, ◌+◌, ◌^◌, ◌<◌, ◌≤◌, false, drop, length}
use Rattle.std.specs.Fmt.{digits, digits_onto}
use Rattle.script_generator.proofs.digits.hex_text.Given as goal

abbrev pub invariant-loop-left : goal.invariant-loop-left
invariant-loop-left l = record {
  long : length l.text ≡ 8;
  place : l.at ≤ 7;
  small : l.left < 16 ^ (l.at + 1);
  onto : digits_onto (57 + l.at) 16 false l.left (drop (l.at + 1) l.text) ≡ digits 16 false l.value;
}

abbrev pub decreases-loop-left : goal.decreases-loop-left
decreases-loop-left l = l.left
