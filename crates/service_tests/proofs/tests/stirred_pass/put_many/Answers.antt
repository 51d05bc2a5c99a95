use Rattle.std.proofs.Common.{◌≡◌, ℕ, ◌+◌, drop, ap, ◌∙◌, arith}
use Rattle.gpu_fetch.specs.Plain.{PlainData, one_further}
use Rattle.service_tests.specs.Stirred.{puts_ahead}
use Rattle.service_tests.proofs.Stirring.{next_is_put, puts_left}
use Rattle.service_tests.proofs.tests.stirred_pass.put_many.Goals as goal

pub put-requires-clause-next : goal.put-requires-clause-next
put-requires-clause-next c =
    let left = c.loop-put.invariant.left in
    next_is_put c.args.plan.now.actions c.loop-put.words.done (omega arith)

pub loop-put-preserved : goal.loop-put-preserved
loop-put-preserved c =
    let actions = c.args.plan.now.actions in
    let before = c.args.words.now in
    let left = c.loop-put.invariant.left in
    let further : c.put.new.self.done ≡ c.loop-put.words.done + 1 = ap (λ (w : PlainData). w.done) c.put.ensures.done in
    let one = puts_left actions c.loop-put.words.done (omega arith) in
    let here : puts_ahead (drop c.put.new.self.done actions) ≡ puts_ahead (drop (c.loop-put.words.done + 1) actions) = ap (λ n. puts_ahead (drop n actions)) further in
    let count : before.done + c.loop-put._put + 1 ≡ before.done + (c.loop-put._put + 1) = omega arith in
    record {
      done = c.put.ensures.done ∙ ap one_further c.loop-put.invariant.done ∙ ap (λ (n : ℕ). record before { done = n }) count;
      beside = λ side h. c.put.ensures.beside side (c.loop-put.invariant.beside side h);
      notes = λ side mark h. c.put.ensures.notes side mark (c.loop-put.invariant.notes side mark h);
      left = omega arith;
    }
