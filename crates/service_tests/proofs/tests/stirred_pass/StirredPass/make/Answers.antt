use Rattle.std.proofs.Common.{◌≡◌, ℕ, List, drop, length, sym, ap, ◌∙◌, arith}
use Rattle.std.proofs.lemmas.List.{take_rest}
use Rattle.gpu_plan.specs.declared.plan.Action.{Action}
use Rattle.gpu_plan.specs.Plans.{PlanData}
use Rattle.gpu_fetch.specs.Side.{SideData}
use Rattle.gpu_fetch.specs.Plain.{PlainData, one_further}
use Rattle.service_tests.specs.Stirred.{puts_ahead, puts_further}
use Rattle.service_tests.proofs.tests.stirred_pass.StirredPass.make.Goals as goal

pub invariant_of-stirred : goal.invariant_of-stirred
invariant_of-stirred c =
    let words = c.flush-note.ensures.done ∙ ap one_further (c.put_many.ensures.done ∙ ap (λ (w : PlainData). puts_further w c.count_puts.result) c.in_ok-words.ensures.words) in
    let same : c.in_ok-plan.plan ≡ c.flush-note.new.self.plan = c.in_ok-plan.ensures ∙ sym (ap (λ (w : PlainData). w.plan) words) in
    let actions : c.actions-2.result.now ≡ c.flush-note.new.self.plan.actions = c.actions-2.ensures.value ∙ ap (λ (q : PlanData). q.actions) same in
    let left = c.count_puts-left.ensures ∙ ap puts_ahead (take_rest c.actions-2.result.now c.done.result) ∙ ap (λ (n : ℕ). puts_ahead (drop n c.actions-2.result.now)) c.done.ensures.value ∙ ap (λ (xs : List Action). puts_ahead (drop c.flush-note.new.self.done xs)) actions in
    let none : length c.in_ok-words.pass.fetched ≡ 0 = ap (λ (x : SideData). length x.fetched) c.in_ok-words.ensures.side in
    (same, left, omega arith)
