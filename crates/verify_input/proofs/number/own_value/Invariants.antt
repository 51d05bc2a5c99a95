use Rattle.std.proofs.Common.{◌+◌, ◌*◌, ◌≤◌, ◌^◌, take}
use Rattle.verify_input.proofs.Numbers.{IsWorth}
use Rattle.verify_input.proofs.number.own_value.Given as goal

abbrev pub invariant-loop-byte : goal.invariant-loop-byte
invariant-loop-byte l = record {
  worth : IsWorth l.word (take l.byte-index l.word) l.value;
  most : l.value + 2 ^ 32 ≤ 2 ^ 32 * 16 ^ l.byte-index;
}
