use Rattle.std.proofs.Common.{◌≡◌, ◌+◌, List, length, refl, sym, ap, ◌∙◌, subst, arith}
use Rattle.gpu_plan.specs.declared.plan.Action.{Action}
use Rattle.gpu_plan.specs.Plans.{PlanData}
use Rattle.gpu_fetch.specs.Plain.{PlainData, ArePuts, IsNext, IsPut, IsBeside, IsNoteBeside}
use Rattle.gpu_fetch.proofs.Putting.{puts_more, put_within, puts_beside}
use Rattle.gpu_fetch.proofs.Storing.{stored_again}
use Rattle.gpu_fetch.proofs.plain.words.PlainWords.put_all.Goals as goal

pub loop-actions-preserved : goal.loop-actions-preserved
loop-actions-preserved c =
    let i = c.loop-actions.invariant in
    let same : c.self.inside.plan.value ≡ c.args.plan.now = ap (λ (w : PlainData). w.plan) c.self.view_is ∙ sym c.requires in
    let these = c.actions-actions.ensures.value in
    let there : IsNext IsPut c.actions-actions.result.now c.loop-actions.done = c.is_put.ensures.0 c.loop-actions-test.true in
    let one : IsNext IsPut c.args.plan.now.actions c.loop-actions.done = subst (λ (actions : List Action). IsNext IsPut actions c.loop-actions.done) these there in
    let within = put_within c.args.plan.now.actions c.loop-actions.done one in
    record {
      plan = i.plan;
      fits = let most = c.actions-actions.ensures.lawful.few in let few = ap length these in omega (arith, most, within, few);
      further = let low = i.further in omega (arith, low);
      stored = stored_again c.self.inside.plan.value c.args.plan.now c.loop-actions.done c.loop-actions.self-inside.values.items c.store.new.values.items c.actions-actions.result.now c.index-actions-done.result same these within c.index-actions-done.is c.store.ensures.count c.store.ensures.each i.stored;
      puts = puts_more c.args.plan.now.actions c.self.inside.done c.loop-actions.done (c.loop-actions.done + 1) i.puts one refl;
    }

pub returns-clause-beside : goal.returns-clause-beside
returns-clause-beside c side h =
    let i = c.loop-actions.invariant in
    let same : c.args.plan.now ≡ c.self.inside.plan.value = c.requires ∙ ap (λ (w : PlainData). w.plan) (sym c.self.view_is) in
    let puts = subst (λ (q : PlanData). ArePuts q.actions c.self.inside.done c.loop-actions.done) same i.puts in
    puts_beside side (record { plan = c.self.inside.plan.value; done = c.self.inside.done }) (record { plan = c.loop-actions.self-inside.plan.value; done = c.loop-actions.done }) (ap (λ p. p.value) i.plan) i.further puts (subst (IsBeside side) (sym c.self.view_is) h)

pub returns-clause-notes : goal.returns-clause-notes
returns-clause-notes c side mark h =
    let i = c.loop-actions.invariant in
    let same : c.args.plan.now ≡ c.self.inside.plan.value = c.requires ∙ ap (λ (w : PlainData). w.plan) (sym c.self.view_is) in
    let puts = subst (λ (q : PlanData). ArePuts q.actions c.self.inside.done c.loop-actions.done) same i.puts in
    let mine = subst (λ (w : PlainData). IsNoteBeside side w mark) (sym c.self.view_is) h in
    let low = mine.1 in
    let further = i.further in
    (puts_beside side (record { plan = c.self.inside.plan.value; done = c.self.inside.done }) (record { plan = c.loop-actions.self-inside.plan.value; done = c.loop-actions.done }) (ap (λ p. p.value) i.plan) i.further puts mine.0, omega (arith, low, further))
