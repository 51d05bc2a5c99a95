use Rattle.std.proofs.Common.{◌++◌, [], ◌∷◌, ap, ◌∙◌, arith}
use Rattle.std.proofs.lemmas.List.{length_push}
use Rattle.script_lines.specs.Text.{words_of}
use Rattle.script_lines.proofs.Puts.{value_counts, values_go}
use Rattle.gpu_plan.specs.declared.plan.Action.TheVariants.{Put}
use Rattle.gpu_plan.proofs.Putting.{put_goes, behind_stays, stops_at_word}
use Rattle.gpu_plan.proofs.growing.push_puts.Goals as goal

pub returns-in_default-clause-told : goal.returns-in_default-clause-told
returns-in_default-clause-told c =
    let all = words_of c.loop-value.value-iterator.rest.now in
    stops_at_word (words_of c.args.values.rest.now) all c.args.place c.args.end c.loop-value.at c.loop-value.invariant.counted c.loop-value.invariant.values (words_of c.next.new.self.rest.now) c.in-Some.value c.in-Some.ensures.steps c.in_default.is

pub loop-value-preserved : goal.loop-value-preserved
loop-value-preserved c =
    let words = words_of c.args.values.rest.now in
    let all = words_of c.loop-value.value-iterator.rest.now in
    let rest = words_of c.next.new.self.rest.now in
    let said = c.in-Some.value in
    let value = c.in-Some-value.value in
    let is = c.in-Some-value.is in
    let steps = c.in-Some.ensures.steps in
    let so_far = c.loop-value.invariant in
    let old = c.args.actions.now.items in
    let items = c.loop-value.actions.items in
    let at = c.loop-value.at in
    let counts = value_counts all rest said steps in
    let pushed = c.push_reserved.ensures.items ∙ ap (λ place. items ++ Put place value ∷ []) c.of.ensures in
    record {
      counted = omega arith;
      values = values_go all rest words said steps so_far.values value is;
      below = omega arith;
      room = omega arith;
      added = rw pushed (put_goes all rest said value steps is items _ at so_far.added);
      longer = rw pushed (omega (arith, length_push items (Put at value)));
      behind = rw pushed (behind_stays old items (Put at value) so_far.longer so_far.behind);
    }

pub returns-in_default-clause-behind : goal.returns-in_default-clause-behind
returns-in_default-clause-behind c = c.loop-value.invariant.behind

pub returns-then-at-end-clause-behind : goal.returns-then-at-end-clause-behind
returns-then-at-end-clause-behind c = c.loop-value.invariant.behind

pub returns-clause-behind : goal.returns-clause-behind
returns-clause-behind c = c.loop-value.invariant.behind

pub returns-clause-within : goal.returns-clause-within
returns-clause-within c = c.loop-value.invariant.below
