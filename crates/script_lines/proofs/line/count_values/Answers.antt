use Rattle.std.proofs.Common.{arith}
use Rattle.script_lines.specs.Text.{words_of}
use Rattle.script_lines.proofs.Few.{few_words}
use Rattle.script_lines.proofs.Puts.{value_counts, values_go, values_stop, counted, not_counted}
use Rattle.script_lines.proofs.line.count_values.Goals as goal

pub overflow_add-count : goal.overflow_add-count
overflow_add-count c =
    let counts = value_counts (words_of c.loop-value.value-iterator.rest.now) (words_of c.next.new.self.rest.now) c.in-Some.value c.in-Some.ensures.steps in
    omega (arith, few_words c.args.values.rest.now)

pub loop-value-preserved : goal.loop-value-preserved
loop-value-preserved c =
    let all = words_of c.loop-value.value-iterator.rest.now in
    let rest = words_of c.next.new.self.rest.now in
    let counts = value_counts all rest c.in-Some.value c.in-Some.ensures.steps in
    record {
      values = values_go all rest (words_of c.args.values.rest.now) c.in-Some.value c.in-Some.ensures.steps c.loop-value.invariant.values c.in_ok-value.field-0 c.in_ok-value.was;
      counted = omega arith;
    }

pub returns-in_err-value-clause-counted : goal.returns-in_err-value-clause-counted
returns-in_err-value-clause-counted c =
    let some = values_stop (words_of c.loop-value.value-iterator.rest.now) (words_of c.next.new.self.rest.now) (words_of c.args.values.rest.now) c.in-Some.value c.in-Some.ensures.steps c.loop-value.invariant.values c.in_err-value.was in
    rw c.from_residual.ensures (not_counted (words_of c.args.values.rest.now) some)

pub returns-clause-counted : goal.returns-clause-counted
returns-clause-counted c = counted (words_of c.args.values.rest.now) (words_of c.loop-value.value-iterator.rest.now) c.loop-value.count c.in-None.ensures.steps.0 c.loop-value.invariant.values c.loop-value.invariant.counted

pub returns-clause-few : goal.returns-clause-few
returns-clause-few c = omega (arith, few_words c.args.values.rest.now)
