use Rattle.std.proofs.Common.{◌<◌, ◌^◌, ◌+◌, ◌*◌, get_or, refl, subst, arith}
use Rattle.script_lines.proofs.Digits.{digits_step, value_step}
use Rattle.script_lines.proofs.Read.{short_room}
use Rattle.script_lines.proofs.reading.leading_digits.Goals as goal

pub overflow_mul-value : goal.overflow_mul-value
overflow_mul-value c =
    let low = c.if-digit-radix.false in
    let fits : c.loop-count.value * c.args.radix + c.digit_of-digit.result < 2 ^ 32 = short_room c.args.radix c.args.bytes.now c.loop-count.count c.loop-count.value c.digit_of-digit.result c.requires.sixteen (omega arith) c.loop-count.invariant.digits c.loop-count.invariant.value low in
    omega arith

pub overflow_add-value : goal.overflow_add-value
overflow_add-value c =
    let low = c.if-digit-radix.false in
    let fits : c.loop-count.value * c.args.radix + c.digit_of-digit.result < 2 ^ 32 = short_room c.args.radix c.args.bytes.now c.loop-count.count c.loop-count.value c.digit_of-digit.result c.requires.sixteen (omega arith) c.loop-count.invariant.digits c.loop-count.invariant.value low in
    omega arith

pub loop-count-preserved : goal.loop-count-preserved
loop-count-preserved c =
    let byte = get_or c.args.bytes.now c.loop-count.count 0 in
    record {
      digits = digits_step c.args.radix c.args.bytes.now c.loop-count.count byte c.loop-count-test.true refl (subst (λ digit. digit < c.args.radix) c.digit_of-digit.ensures c.if-digit-radix.false) c.loop-count.invariant.digits;
      value = value_step c.args.radix c.args.bytes.now c.loop-count.count byte c.loop-count.value c.digit_of-digit.result c.loop-count-test.true refl c.digit_of-digit.ensures c.loop-count.invariant.value;
    }
