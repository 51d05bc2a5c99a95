use Rattle.std.proofs.Common.{◌≡◌, ◌+◌, ◌≤◌, ◌++◌, take, vec_len, vec_capacity}
use Rattle.script_generator.proofs.digits.put_text.Given as goal

abbrev pub invariant-loop-byte : goal.invariant-loop-byte
invariant-loop-byte l = record {
  items : l.out.items ≡ l.fn.out.items ++ take l.byte-index l.text;
  len : vec_len l.out ≡ vec_len l.fn.out + l.byte-index;
  room : vec_capacity l.fn.out ≤ vec_capacity l.out;
}
