use Rattle.std.proofs.Common.{◌<◌, get_or, refl, subst, arith}
use Rattle.script_lines.proofs.Digits.{long_value_small, digits_step, value_step}
use Rattle.script_lines.proofs.number.long_value_of.Goals as goal

pub overflow_mul-value : goal.overflow_mul-value
overflow_mul-value c =
    let small = long_value_small c.args.word.now c.loop-byte.byte-index (omega arith) c.loop-byte.invariant.digits in
    omega arith

pub overflow_add-value : goal.overflow_add-value
overflow_add-value c =
    let small = long_value_small c.args.word.now c.loop-byte.byte-index (omega arith) c.loop-byte.invariant.digits in
    let digit = c.from.ensures in
    let low = c.if-digit-ge10.false in
    omega arith

pub loop-byte-preserved : goal.loop-byte-preserved
loop-byte-preserved c =
    let byte = get_or c.args.word.now c.loop-byte.byte-index 0 in
    record {
      digits = digits_step 10 c.args.word.now c.loop-byte.byte-index byte c.loop-byte-test.true refl (subst (λ digit. digit < 10) c.digit_of-digit.ensures c.if-digit-ge10.false) c.loop-byte.invariant.digits;
      value = rw c.from.ensures (value_step 10 c.args.word.now c.loop-byte.byte-index byte c.loop-byte.value c.digit_of-digit.result c.loop-byte-test.true refl c.digit_of-digit.ensures c.loop-byte.invariant.value);
    }
