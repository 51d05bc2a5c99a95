use Rattle.std.proofs.Common.{◌+◌, map, sym, arith}
use Rattle.std.proofs.lemmas.List.{length-map}
use Rattle.script_lines.specs.Text.{words_of}
use Rattle.script_lines.specs.Numbers.{value_of}
use Rattle.gpu_plan.specs.Drafts.{shown}
use Rattle.gpu_plan.proofs.Counts.{more_actions, no_more_flushes}
use Rattle.gpu_plan.proofs.Putting.{acts, put_refused, no_room}
use Rattle.gpu_plan.proofs.draft.Draft.put.Goals as goal

pub invariant_of-self-in_default-2 : goal.invariant_of-self-in_default-2
invariant_of-self-in_default-2 c =
    let same = rw c.in_default-2.is at c.in_ok-count.ensures.refused in
    let counted = rw c.in-Some.is at c.args.self.now.counted in
    let flushes = rw c.in-Some.is at c.args.self.now.counted_flushes in
    record { few = c.args.self.now.few; within = c.args.self.now.within; flushed = c.args.self.now.flushed; counted = rw same counted; counted_flushes = rw same flushes }

pub returns-in_default-2-clause-refused : goal.returns-in_default-2-clause-refused
returns-in_default-2-clause-refused c is_false every =
    let words = words_of c.args.values.rest.now in
    let told = rw c.in_default-2.is at c.in_ok-count.ensures.told in
    let far = no_room _ _ words told every in
    let long = length-map words value_of in
    let may = acts (shown c.args.self.now) c.in-Some.plan c.in-Some.is (sym c.if-is_closed.ensures) in
    let area = rw c.areas.ensures.value at (sym c.in-Some-area_of.ensures.area) in
    put_refused c.args.memory c.args.place (map value_of words) (shown c.args.self.now) c.in-Some.plan c.in-Some-area_of.span may area (λ fits. omega arith)

pub invariant_of-self-2 : goal.invariant_of-self-2
invariant_of-self-2 c =
    let words = words_of c.args.values.rest.now in
    let put = rw c.in-Some-2.is at c.in_ok-count.ensures.put in
    let within = rw c.in-Some-2.is at c.in_ok-count.ensures.within in
    let many = rw c.in-Some-2.is at c.in_ok-count.ensures.counted in
    let counted = rw c.in-Some.is at c.args.self.now.counted in
    let flushes = rw c.in-Some.is at c.args.self.now.counted_flushes in
    record {
      few = c.args.self.now.few;
      within = omega arith;
      flushed = c.args.self.now.flushed;
      counted = rw put (omega (arith, more_actions c.in-Some.plan.actions (c.in-Some-area_of.span.base + c.args.place) words));
      counted_flushes = rw put (omega (arith, no_more_flushes c.in-Some.plan.actions (c.in-Some-area_of.span.base + c.args.place) words));
    }

pub invariant_of-self : goal.invariant_of-self
invariant_of-self c = record { few = c.args.self.now.few; within = c.args.self.now.within; flushed = c.args.self.now.flushed; counted = c.args.self.now.counted; counted_flushes = c.args.self.now.counted_flushes }

pub invariant_of-self-then-is_closed : goal.invariant_of-self-then-is_closed
invariant_of-self-then-is_closed c = record { few = c.args.self.now.few; within = c.args.self.now.within; flushed = c.args.self.now.flushed; counted = rw c.in-Some.is at c.args.self.now.counted; counted_flushes = rw c.in-Some.is at c.args.self.now.counted_flushes }

pub invariant_of-self-in_default-area_of : goal.invariant_of-self-in_default-area_of
invariant_of-self-in_default-area_of c = record { few = c.args.self.now.few; within = c.args.self.now.within; flushed = c.args.self.now.flushed; counted = rw c.in-Some.is at c.args.self.now.counted; counted_flushes = rw c.in-Some.is at c.args.self.now.counted_flushes }

pub invariant_of-self-then-place-span : goal.invariant_of-self-then-place-span
invariant_of-self-then-place-span c = record { few = c.args.self.now.few; within = c.args.self.now.within; flushed = c.args.self.now.flushed; counted = rw c.in-Some.is at c.args.self.now.counted; counted_flushes = rw c.in-Some.is at c.args.self.now.counted_flushes }
