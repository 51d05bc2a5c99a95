use Rattle.std.proofs.Common.{◌<◌, ◌^◌, ◌+◌, ◌*◌, get_or, refl, subst, arith}
use Rattle.script_lines.proofs.Digits.{value_small, digits_step, value_step, room}
use Rattle.script_lines.proofs.number.value_of.Goals as goal

pub overflow_mul-value : goal.overflow_mul-value
overflow_mul-value c =
    let small = value_small c.args.radix c.args.word.now c.loop-byte.byte-index c.requires.sixteen (omega arith) c.loop-byte.invariant.digits in
    let base = c.from.ensures in
    let fits : c.loop-byte.value * c.from.result + 0 < 2 ^ 64 = room c.loop-byte.value c.from.result 0 c.args.radix (omega arith) (omega arith) (omega arith) (omega arith) in
    omega arith

pub overflow_add-value : goal.overflow_add-value
overflow_add-value c =
    let small = value_small c.args.radix c.args.word.now c.loop-byte.byte-index c.requires.sixteen (omega arith) c.loop-byte.invariant.digits in
    let base = c.from.ensures in
    let digit = c.from-in-loop-byte.ensures in
    let low = c.if-digit-radix.false in
    let fits : c.loop-byte.value * c.from.result + c.from-in-loop-byte.result < 2 ^ 64 = room c.loop-byte.value c.from.result c.from-in-loop-byte.result c.args.radix (omega arith) (omega arith) (omega arith) (omega arith) in
    omega arith

pub loop-byte-preserved : goal.loop-byte-preserved
loop-byte-preserved c =
    let byte = get_or c.args.word.now c.loop-byte.byte-index 0 in
    record {
      digits = digits_step c.args.radix c.args.word.now c.loop-byte.byte-index byte c.loop-byte-test.true refl (subst (λ digit. digit < c.args.radix) c.digit_of-digit.ensures c.if-digit-radix.false) c.loop-byte.invariant.digits;
      value = rw (c.from.ensures, c.from-in-loop-byte.ensures) (value_step c.args.radix c.args.word.now c.loop-byte.byte-index byte c.loop-byte.value c.digit_of-digit.result c.loop-byte-test.true refl c.digit_of-digit.ensures c.loop-byte.invariant.value);
    }
